use Rattle.als_world.proofs.restarting.crash.Goals as goal

pub returns : goal.returns
returns g c = let left = c.crash_disks-left.ensures in record {
  left = λ config n held. record {
    large = rw (left.log_blocks, left.control_blocks, left.page_blocks) held.large;
    log_settled = left.log;
    control_settled = left.control;
    pages_settled = left.pages;
    node = rw left.log_blocks (left.stays _ _ n held.stays);
  };
}
