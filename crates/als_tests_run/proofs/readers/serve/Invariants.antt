use Rattle.std.proofs.Common.{vec_len}
use Rattle.als_tests_run.proofs.readers.serve.Given as goal

abbrev pub decreases-loop-reader : goal.decreases-loop-reader
decreases-loop-reader g l = vec_len l.readers

abbrev pub decreases-loop-thread : goal.decreases-loop-thread
decreases-loop-thread g l = vec_len l.watching
