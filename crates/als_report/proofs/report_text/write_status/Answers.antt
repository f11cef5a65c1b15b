use Rattle.std.specs.Prelude.{[], ◌∷◌}
use Rattle.json.specs.Token.{begin_object, end_object}
use Rattle.als_report.specs.Followers.{primary_tokens}
use Rattle.als_report.specs.Texts.{log_tokens, redo_tokens, room_tokens, refusal_tokens}
use Rattle.als_report.proofs.TextLaws.{seven}
use Rattle.als_report.proofs.report_text.write_status.Goals as goal

pub returns-clause-tokens : goal.returns-clause-tokens
returns-clause-tokens c =
    seven _ _ _ _ _ _ _ _ (begin_object ∷ []) (log_tokens c.args.report.now) (redo_tokens c.args.report.now c.args.commits) (room_tokens c.args.report.now)
    (primary_tokens c.args.report.now) (refusal_tokens c.args.report.now) (end_object ∷ [])
    c.in_ok-begin_object.ensures.ok c.in_ok-write_log.ensures.tokens c.in_ok-write_redo.ensures.tokens c.in_ok-write_room.ensures.tokens
    c.in_ok-write_primary.ensures.tokens c.in_ok-write_refusals.ensures.tokens c.in_ok-end_object.ensures.ok
