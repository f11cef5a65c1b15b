-- A feed, from what went over to the held log.
use Rattle.std.proofs.Common.{◌≡◌, ℕ, ◌-◌, List, [], ◌++◌, length, Option, None, Ok, ap, subst, ◌∙◌}
use Rattle.std.proofs.Common.{length-append, arith}
use Rattle.std.specs.Prelude.{is_some}
use Rattle.als_record.specs.declared.record.Record.{Record}
use Rattle.als_record.specs.Reading.{read_record}
use Rattle.als_record.specs.LogText.{end_of}
use Rattle.als_record.specs.Validity.{IsValidLog}
use Rattle.als_receiver.specs.Reception.{Reception}
use Rattle.als_engine.specs.declared.fault.Fault.{Fault}
use Rattle.als_store.specs.Stored.{Stored}
use Rattle.als_engine.specs.Machine.{Machine}
use Rattle.als_engine.specs.Readers.{count_in}
use Rattle.als_engine.specs.Feeds.{grown, FeedsAll, FeedsFront, kept_fault}
use Rattle.als_engine.specs.TakingIn.{TakesAll, TakesFront}
use Rattle.als_engine.proofs.TakingLaws.{end_grown}

abbrev pub machine : Stored → ℕ → List ℕ → Option Fault → Option ℕ → Machine
machine held limit partial refused shown =
    record {
      held = held;
      limit = limit;
      partial = partial;
      refused = refused;
      listed =
          is_some shown;
      published = count_in shown;
    }

log_at : (held new : Stored) (records : List Record) → new ≡ grown held records
    → IsValidLog new.pages new.log → IsValidLog held.pages (held.log ++ records)
log_at held new records e is_log = subst (λ (h : Stored). IsValidLog h.pages h.log) e is_log

counted : (held new : Stored) (records : List Record) (count : ℕ) → new ≡ grown held records
    → count ≡ length new.log - length held.log → count ≡ length records
counted held new records count e f =
    omega (arith, f, ap (λ (h : Stored). length h.log) e, length-append held.log records)

pub feeds_all : (held new : Stored) (limit : ℕ) (kept piece : List ℕ) (refused : Option Fault)
    (receiver : Reception) (shown next : Option ℕ) (taken count : ℕ)
    → TakesAll held (kept ++ piece) new receiver → next ≡ shown → IsValidLog new.pages new.log
    → taken ≡ length piece → count ≡ length new.log - length held.log
    → FeedsAll (machine held limit kept refused shown) piece
    (record { taken = taken; records = count }) (machine new limit receiver.kept refused next)
feeds_all held new limit kept piece refused receiver shown next taken count all same is_log taken-is
    count-is = record {
      records = all.records;
      rest = receiver.kept;
      split = record {
        whole = all.whole;
        is_log = log_at held new all.records all.after is_log;
        fit =
            all.fit;
      };
      waits = subst (λ (h : Stored). read_record h.pages (end_of h.log) receiver.kept ≡ Ok None)
          all.after all.rests.waits;
      after = ap (λ (h : Stored). machine h limit receiver.kept refused next) all.after
          ∙ ap (λ (n : Option ℕ). machine (grown held all.records) limit receiver.kept refused n) same;
      taken = taken-is;
      count = counted held new all.records count all.after count-is;
    }

pub feeds_front : (held new : Stored) (limit : ℕ) (kept piece : List ℕ) (refused : Option Fault)
    (fault : Fault) (shown next : Option ℕ) (taken count bytes : ℕ)
    → TakesFront held (kept ++ piece) new fault → next ≡ shown → IsValidLog new.pages new.log
    → bytes ≡ end_of new.log - end_of held.log → taken ≡ bytes - length kept
    → count ≡ length new.log - length held.log
    → FeedsFront (machine held limit kept refused shown) piece
    (record { taken = taken; records = count; fault = fault })
    (machine new limit [] (kept_fault fault) next)
feeds_front held new limit kept piece refused fault shown next taken count bytes front same is_log
    bytes-is taken-is count-is = record {
      records = front.records;
      rest = front.rest;
      split = record {
        whole = front.whole;
        is_log =
            log_at held new front.records front.after is_log;
        fit = front.fit;
      };
      cause = front.cause;
      after = ap (λ (h : Stored). machine h limit [] (kept_fault fault) next) front.after
          ∙ ap (λ (n : Option ℕ). machine (grown held front.records) limit [] (kept_fault fault) n)
          same;
      taken = omega (arith, taken-is, bytes-is, end_grown held new front.records front.after);
      count = counted held new front.records count front.after count-is;
    }
