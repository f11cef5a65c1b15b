use Rattle.std.proofs.Common.{◌≡◌, Option, refl, ap, ◌∙◌, arith}
use Rattle.std.specs.Option.{option_map}
use Rattle.std.proofs.lemmas.Option.{same_Some}
use Rattle.als_record.specs.Pages.{PageState}
use Rattle.als_page.specs.Page.{state_of}
use Rattle.als_frames.specs.declared.lent.Lent.{Lent}
use Rattle.als_frames.specs.Frames.{Framed}
use Rattle.als_frames.specs.Leases.{lent_frame}
use Rattle.als_tests_devices.proofs.frames.redo.Goals as goal

pub take_back-requires-clause-can : goal.take_back-requires-clause-can
take_back-requires-clause-can g c =
    let done = c.lend.ensures.lends in
    let lent : Lent = record { number = 7; count = 1 } in
    let same : state_of c.in-Some.found.now ≡ done.f.content
    = same_Some (state_of c.in-Some.found.now) done.f.content (c.in-Some.ensures.content ∙ ap (option_map (λ (f : Framed). f.content)) done.resident) in
    record {
      is_lent = record { f = lent_frame lent done.f; lent = lent; resident = done.sets.frame; is = refl };
      newer = omega (arith, c.redone-page_then.ensures.newer, ap (λ (s : PageState). s.lsn) same);
    }
