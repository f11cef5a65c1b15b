use Rattle.std.proofs.Common.{vec_len}
use Rattle.als_tests_view.proofs.threads.publish_beside.Given as goal

abbrev pub decreases-loop-reader : goal.decreases-loop-reader
decreases-loop-reader g l = vec_len l.readers

abbrev pub decreases-loop-handle : goal.decreases-loop-handle
decreases-loop-handle g l = vec_len l.handles
