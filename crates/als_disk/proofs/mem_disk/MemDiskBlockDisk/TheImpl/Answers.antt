use Rattle.std.proofs.Common.{inl}
use Rattle.std.proofs.lemmas.Result.{on_err_weaker}
use Rattle.als_disk.specs.Store.{KeepsReadable-newest}
use Rattle.als_disk.proofs.Answered.{OnOk-always, OnErr-ok, CountsFailure-ok}
use Rattle.als_disk.proofs.mem_disk.MemDiskBlockDisk.TheImpl.Goals as goal

pub write-tells : goal.write-tells
write-tells c = record {
  ok = c.ensures.ok;
  err = on_err_weaker c.result (λ same. inl (same c.args.i)) c.ensures.err;
  others = c.ensures.others;
  count = c.ensures.count;
  failures = c.ensures.failures;
  attempts = c.ensures.attempts;
}

pub sync-tells : goal.sync-tells
sync-tells c =
    let old = c.args.self.now in
    record {
      ok = OnOk-always c.result (λ k. KeepsReadable-newest old.synced old.unsynced k _ (c.ensures.newest k));
      err = OnErr-ok _ c.result c.ensures.ok;
      count = c.ensures.count;
      failures = CountsFailure-ok c.result _ _ c.ensures.ok c.ensures.failures;
      attempts = c.ensures.attempts;
    }
