use Rattle.std.proofs.Common.{rules, ◌≡◌, ◌<◌, ◌∙◌, List, ℕ, [], ◌++◌, length, drop, inl, inr, ap, arith}
use Rattle.std.proofs.lemmas.Result.{err_from_is_err_and}
use Rattle.als_lookback.specs.Judged.{Judged, position_of}
use Rattle.als_lookback.proofs.JudgeLaws.{end-nil}
use Rattle.als_lookback.proofs.FrontLaws.{no_header, begun_reads}
use Rattle.als_lookback.proofs.reading.Reading.new.Goals as goal

pub returns-in_err-spent-clause-err : goal.returns-in_err-spent-clause-err
returns-in_err-spent-clause-err g c =
    let p = err_from_is_err_and c.from_residual-in_err-spent.result c.from_residual-in_err-spent.ensures.1 in rw (p.1, p.2) (inl c.in_err-spent.ensures.err)

pub returns-in_err-pages-clause-err : goal.returns-in_err-pages-clause-err
returns-in_err-pages-clause-err g c =
    let ok = c.in_ok-spent.ensures.ok in
    let none = c.in_err-pages.ensures.err in
    let here : c.deref.result.now ≡ ok.0 = c.deref.ensures.value ∙ ok.1 ∙ ap (λ (xs : List ℕ). xs ++ ok.0) c.new-front.ensures.items in
    let same : c.deref.result.now ≡ c.read_front.new.front.items = c.deref.ensures.value in
    let end = rw (← same) at ok.3 in
    let bare = no_header (g.R.Read.remaining c.args.reader) (g.R.Read.remaining c.read_front.new.reader) c.in_ok-spent.spent ok.0 c.deref.result.now here ok.2 end none.1 in
    let p = err_from_is_err_and c.from_residual-in_err-pages.result c.from_residual-in_err-pages.ensures.1 in rw (p.1, p.2) (inr (none.0, bare))

pub push-requires : goal.push-requires
push-requires g c =
    let room : length c.split_at.result.1.now < 9223372036854775808 = search (rules, arith) in
    omega (arith, room, ap position_of c.in_ok-judge.ensures.ok, end-nil)

pub returns-clause-ok : goal.returns-clause-ok
returns-clause-ok g c =
    let ok = c.in_ok-spent.ensures.ok in
    let empty : c.new-front.result.items ≡ [] = c.new-front.ensures.items in
    let all : c.read_front.new.front.items ≡ ok.0 = ok.1 ∙ ap (λ (xs : List ℕ). xs ++ ok.0) empty in
    let first : c.deref.result.now ≡ ok.0 = c.deref.ensures.value ∙ all in
    let again : c.deref-2.result.now ≡ ok.0 = c.deref-2.ensures.value ∙ all in
    let header = rw first at c.in_ok-pages.ensures.ok.0 in
    let back : c.split_at.result.1.now ≡ drop 16 ok.0 = c.split_at.ensures.back ∙ ap (drop 16) again in
    let is = c.in_ok-push.ensures.ok
    ∙ ap (λ (x : Judged). record { pages = x.pages; log = x.log; kept = x.kept ++ c.split_at.result.1.now }) c.in_ok-judge.ensures.ok
    ∙ ap (λ (xs : List ℕ). record { pages = c.in_ok-pages.pages; log = []; kept = xs }) back in
    begun_reads (g.R.Read.remaining c.args.reader) (g.R.Read.remaining c.read_front.new.reader) ok.0 c.in_ok-pages.pages c.push.new.self ok.2 header is
