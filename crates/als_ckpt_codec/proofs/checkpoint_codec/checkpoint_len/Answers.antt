use Rattle.std.proofs.Common.{◌≡◌, ◌+◌, ◌*◌, ◌≤◌, length, Ok, ap, ◌∙◌, arith, inl, inr}
use Rattle.als_ckpt_codec.specs.Checkpoint.{checkpoint_bytes}
use Rattle.als_ckpt_codec.proofs.CheckpointLaws.{transactions-front, pages-front, length-checkpoint_bytes}
use Rattle.als_ckpt_codec.proofs.checkpoint_codec.checkpoint_len.Goals as goal

pub returns-then-transactions-gt-LIMIT-clause-only : goal.returns-then-transactions-gt-LIMIT-clause-only
returns-then-transactions-gt-LIMIT-clause-only c pages position x rest fits is =
    let n : c.half-transactions.result ≡ length x.transactions = c.half-transactions.ensures ∙ transactions-front pages position x fits c.args.front.now rest is in
    let m : c.half-pages.result ≡ length x.pages = c.half-pages.ensures ∙ pages-front pages position x fits c.args.front.now rest is in
    let few : length x.transactions ≤ 256 = fits.tables.0 in
    let few_pages : length x.pages ≤ 4096 = fits.tables.1 in
    elim c.then-transactions-gt-LIMIT.either [
      | inl over ↦ absurd (omega (arith, n, few, over))
      | inr over ↦ absurd (let many = over.1 in omega (arith, m, few_pages, many))
    ]

pub returns-clause-only : goal.returns-clause-only
returns-clause-only c pages position x rest fits is =
    let n : c.half-transactions.result ≡ length x.transactions = c.half-transactions.ensures ∙ transactions-front pages position x fits c.args.front.now rest is in
    let m : c.half-pages.result ≡ length x.pages = c.half-pages.ensures ∙ pages-front pages position x fits c.args.front.now rest is in
    let len : 40 + 21 * c.half-transactions.result + 12 * c.half-pages.result ≡ length (checkpoint_bytes x) = omega (arith, n, m, length-checkpoint_bytes x) in
    ap Ok len
