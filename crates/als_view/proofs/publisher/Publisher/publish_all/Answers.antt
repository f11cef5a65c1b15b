use Rattle.std.proofs.Common.{◌≡◌, ◌++◌, List, drop, refl, ap, sym, ◌∙◌, subst, append_assoc}
use mathlib.Core.List.{IsPrefix}
use Rattle.als_record.specs.Commits.{Commit}
use Rattle.als_view.specs.Entries.{AreCommits}
use Rattle.als_view.specs.Changes.{added, marked_by}
use Rattle.als_view.proofs.Turns.{turns_by, state_of}
use Rattle.als_view.proofs.publisher.Publisher.publish_all.Goals as goal

pub publish_as-writer-requires : goal.publish_as-writer-requires
publish_as-writer-requires g c next is =
    let p = c.args.self in
    let x = c.load.new.writer.desk.shown.value in
    let y = p.writer.desk.shown.value in
    let same : x ≡ y = ap (λ d. d.shown.value) c.load.ensures.desk in
    let more : List Commit = added (drop p.writer.behind p.writer.log.items) ++ p.queue.items in
    let all : p.front.seen.log ≡ x.list.items ++ more = p.pends ∙ (append_assoc y.list.items _ _ ∙ sym (ap (λ s. s.list.items ++ more) same)) in
    let log : x.seen.log ≡ x.list.items = ap (λ s. s.seen.log) same ∙ (p.names ∙ sym (ap (λ s. s.list.items) same)) in
    let front : IsPrefix x.seen.log p.front.seen.log = (more, ap (λ l. l ++ more) log ∙ sym all) in
    turns_by _ _ x next (marked_by (state_of x) more (record { seen = p.front.seen })) (is ∙ c.in_default.ensures.ok.1 (state_of x)) all (subst AreCommits all c.requires)
    (ap (λ s. s.seen.book) same ∙ p.same_book) refl front
