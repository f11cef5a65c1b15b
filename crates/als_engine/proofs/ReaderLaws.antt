-- What readers see of a log goes on with it.
use Rattle.std.proofs.Common.{◌≡◌, ℕ, ◌+◌, ◌-◌, ◌^◌, ◌≤◌, ◌<◌, Bool, false, true, not, cond, nat_le}
use Rattle.std.proofs.Common.{List, [], ◌∷◌, ◌++◌, length, Option, Some, None, Ok, refl, sym, ap}
use Rattle.std.proofs.Common.{subst, ◌∙◌, inl, inr, arith}
use Rattle.std.specs.Prelude.{is_some, filter, take, if◌then◌else◌, ◌⊎◌, Result, Err, MatchOption, IsSomeAnd}
use Rattle.std.proofs.lemmas.List.{take_at, append_assoc}
use Rattle.std.proofs.lemmas.Bool.{cases_Bool, true≢false, lt-leb, le-leb}
use Rattle.als_record.specs.declared.lsn.Lsn.{Lsn}
use Rattle.als_record.specs.declared.record.Record.{Record}
use Rattle.als_record.specs.declared.record.Body.{Body}
use Rattle.als_record.specs.declared.record.Body.TheVariants.{Update, Compensation, Commit}
use Rattle.als_record.specs.declared.record.Body.TheVariants.{Rollback, End, BeginCheckpoint}
use Rattle.als_record.specs.declared.record.Body.TheVariants.{EndCheckpoint, Prepare}
use Rattle.als_record.specs.Reading.{read_record}
use Rattle.als_record.specs.LogText.{end_of}
use Rattle.als_record.specs.Validity.{is_valid}
use Rattle.als_record.specs.Transactions.{is_commit}
use Rattle.als_record.specs.Commits.{Commit as Committed, commits_of}
use Rattle.als_record.specs.Tail.{TailStep, Ends, Undoes, undone, record_for, numbered, tail_steps}
use Rattle.als_record.specs.Tail.{tail_of, decision}
use Rattle.als_commits.specs.Counting.{ended_count}
use Rattle.als_view.specs.Showing.{View, IsShowing, IsPublishedOf, IsWarming, count_of, published_of}
use Rattle.als_view.specs.Views.{listed_in}
use Rattle.als_view.proofs.ShowingLaws.{published_few}
use Rattle.als_receiver.specs.Reception.{Reception, fresh}
use Rattle.als_ckpt.specs.declared.control_state.ControlState.{ControlState}
use Rattle.als_store.specs.Stored.{Stored, acknowledged, newest, pending_of}
use Rattle.als_ckpt.specs.Regions.{Begun}
use Rattle.als_ckpt.specs.Control.{last_state}
use Rattle.als_store.specs.declared.fault.Fault.{Fault as StoreFault}
use Rattle.als_store.specs.declared.fault.Fault.TheVariants as store_fault
use Rattle.als_store.specs.CheckpointEvents.{Publishes, BreaksPublish, NotPublished, NotBegun}
use Rattle.als_store.specs.CheckpointEvents.{NoBlock}
use Rattle.als_store.specs.Events.{HasUnmarked, BreaksMark, SyncsControl, ReadsInVain, NotLent}
use Rattle.als_store.specs.Events.{NotFlushed, NotShown}
use Rattle.als_store.specs.Takeover.{UndoesOne, NotUndone, NotCollected, Resolves, decision_body}
use Rattle.als_store.specs.declared.decision.Decision.{Decision}
use Rattle.als_store.specs.Opening.{IsOpened}
use Rattle.als_engine.specs.declared.fault.Fault.{Fault}
use Rattle.als_engine.specs.declared.fault.Fault.TheVariants as fault
use Rattle.als_engine.specs.declared.step.Step.TheVariants as step
use Rattle.als_engine.specs.Machine.{Machine}
use Rattle.als_engine.specs.Feeds.{grown}
use Rattle.als_engine.specs.TakingIn.{IsReady}
use Rattle.als_engine.specs.Readers.{ViewGoesOn, IsSeen, IsServing, count_in, ended_in}
use Rattle.als_engine.specs.Refusals.{refusal}
use Rattle.als_engine.specs.Publishing.{PublishesEnded, PublishesView}
use Rattle.als_engine.specs.Readiness.{readied, BecomesReady, Readies}
use Rattle.als_engine.proofs.ReadyLaws.{ready_opened}
use Rattle.als_engine.proofs.PageLaws.{acting}

-- ---- a view goes on

pub goes_on_still : (log : List Record) (view : View) → ViewGoesOn log view log view
goes_on_still log view = record { shows = λ offset h. h; published = refl; pages = refl; book = refl }

pub goes_on_then : (a b c : List Record) (u v w : View) → ViewGoesOn a u b v → ViewGoesOn b v c w
    → ViewGoesOn a u c w
goes_on_then a b c u v w first second = record {
  shows = λ offset h. second.shows offset (first.shows offset h);
  published = second.published ∙ first.published;
  pages = second.pages ∙ first.pages;
  book = second.book ∙ first.book;
}

-- room for a commit shows nothing
pub goes_on_room : (log : List Record) (old new : View) → new ≡ record old { room = new.room }
    → ViewGoesOn log old log new
goes_on_room log old new e = subst (λ (v : View). ViewGoesOn log old log v) (sym e) (record {
  shows = λ offset h. record { parts = h.parts; ended = h.ended; front = h.front };
  published = refl;
  pages = refl;
  book = refl;
})

-- a record that is no commit
pub goes_on_other : (held new : Stored) (r : Record) (view : View) → new ≡ grown held (r ∷ [])
    → is_valid new.log ≡ true → is_commit r.body ≡ false
    → ((log : List Record) (r : Record) (offset : ℕ) (v : View) → is_valid (log ++ r ∷ []) ≡ true
    → is_commit r.body ≡ false → IsShowing log offset v → IsShowing (log ++ r ∷ []) offset v)
    → ViewGoesOn held.log view new.log view
goes_on_other held new r view is valid none other =
    let log : new.log ≡ held.log ++ r ∷ [] = ap (λ (h : Stored). h.log) is in
    subst (λ (l : List Record). ViewGoesOn held.log view l view) (sym log) (record {
      shows = λ offset h. other held.log r offset view (sym (ap is_valid log) ∙ valid) none h;
      published = refl;
      pages = refl;
      book = refl;
    })

-- a commit record, whose commit was taken
pub goes_on_taken : (held new : Stored) (r : Record) (old mid view : View)
    → new ≡ grown held (r ∷ []) → mid ≡ record old { room = mid.room }
    → ((offset : ℕ) → IsShowing held.log offset mid → IsShowing (held.log ++ r ∷ []) offset view)
    → view.published ≡ mid.published → (view.pages ≡ mid.pages) × (view.book ≡ mid.book)
    → ViewGoesOn held.log old new.log view
goes_on_taken held new r old mid view is room shows published same =
    let log : new.log ≡ held.log ++ r ∷ [] = ap (λ (h : Stored). h.log) is in
    goes_on_then held.log held.log new.log old mid view (goes_on_room held.log old mid room)
    (subst (λ (l : List Record). ViewGoesOn held.log mid l view) (sym log) (record {
      shows = shows;
      published = ap count_of published;
      pages = same.0;
      book = same.1;
    }))

-- ---- no record of a tail is a commit

undone-no_commit : (prev : Lsn) (body : Body) → is_commit (undone prev body) ≡ false
undone-no_commit prev (Update key before after) = refl
undone-no_commit prev (Compensation undo key after) = refl
undone-no_commit prev Commit = refl
undone-no_commit prev Rollback = refl
undone-no_commit prev End = refl
undone-no_commit prev BeginCheckpoint = refl
undone-no_commit prev (EndCheckpoint rows pages) = refl
undone-no_commit prev Prepare = refl

step-no_commit : (log : List Record) (step : TailStep)
    → is_commit (record_for log step).body ≡ false
step-no_commit log (Ends t) = refl
step-no_commit log (Undoes u) = undone-no_commit u.prev u.body

numbered-no_commit : (log : List Record) (steps : List TailStep) (made : Record)
    (rest : List Record) → numbered log steps ≡ made ∷ rest → is_commit made.body ≡ false
unfolding numbered
numbered-no_commit log [] made rest e = absurd cc
numbered-no_commit log (step ∷ steps) made rest e =
    let first : record_for log step ≡ made =
    cc e in subst (λ (r : Record). is_commit r.body ≡ false) first (step-no_commit log step)

pub tail-no_commit : (log : List Record) (made : Record) (rest : List Record)
    → tail_of log ≡ made ∷ rest → is_commit made.body ≡ false
unfolding tail_of
tail-no_commit log made rest e = numbered-no_commit log (tail_steps log) made rest e

-- ---- how many commits are published

length-filter : (test : Committed → Bool) (cs : List Committed)
    → length (filter test cs) ≤ length cs
length-filter test [] = omega arith
length-filter test (c ∷ cs) =
    let h : length (filter test cs) ≤ length cs =
    length-filter test cs in elim (cases_Bool (test c)) [
      | inl y ↦ rw y (omega (arith, h))
      | inr n ↦ rw n (omega (arith, h))
    ]

pub ended_in-few : (held : Stored) → ended_in held ≤ length (commits_of held.log)
unfolding ended_count
ended_in-few held =
    length-filter (λ c. nat_le (c.lsn.0 + 28) (acknowledged held)) (commits_of held.log)

-- a list and its length
pub listed_count : (published : Option (List Committed)) → count_in (count_of published) ≡ length (listed_in published)
listed_count None = refl
listed_count (Some commits) = refl

-- a view counts no more commits than have ended
pub counted : (held : Stored) (view : View) → IsSeen held view
    → count_in (published_of view) ≤ ended_in held
counted held view seen =
    omega (
      arith,
      listed_count view.published,
      published_few held.log (acknowledged held) view seen.shows,
    )

pub none_counted : (shown : Option ℕ) → is_some shown ≡ false → count_in shown ≡ 0
none_counted None e = refl
none_counted (Some n) e = absurd cc

-- ---- what is seen after an event

-- the log, what is acknowledged, the page count and whether it recovers are as they were
pub seen_still : (old new : Stored) (view : View) → IsSeen old view → (held : Stored) → new ≡ held
    → held.log ≡ old.log → held.control ≡ old.control → held.pages ≡ old.pages
    → held.recovering ≡ old.recovering → IsSeen new view
seen_still old new view seen held is log control pages recovering =
    subst (λ (h : Stored). IsSeen h view) (sym is) (record {
      shows = subst (λ (l : List Record). IsShowing l (acknowledged held) view) (sym log)
          (subst (λ (c : ControlState). IsShowing old.log c.mark.0 view) (sym control) seen.shows);
      pages = seen.pages ∙ sym pages;
      listed = seen.listed ∙ ap not (sym recovering);
      stable = λ r. let low : end_of old.log ≤ acknowledged old = seen.stable (sym recovering ∙ r) in
          omega (arith, low, ap end_of log, ap (λ (c : ControlState). c.mark.0) control);
    })

-- a mark that was not written, or perhaps
pub seen_unmarked : (old new : Stored) (view : View) (cause : StoreFault) → IsSeen old view
    → ((cause ≡ store_fault.NothingToDo) × (HasUnmarked old → ⊥) × (new ≡ old))
    ⊎ ((cause ≡ store_fault.Device) × BreaksMark old new) → IsSeen new view
seen_unmarked old new view cause seen failed = elim failed [
  | inl nothing ↦ seen_still old new view seen old nothing.2 refl refl refl refl
  | inr breaks ↦ seen_still old new view seen _ breaks.1.after refl refl refl refl
]

-- a checkpoint that was published, perhaps, or not
pub seen_checkpoint : (old new : Stored) (view : View) → IsSeen old view → (begun : Option Begun)
    → IsSomeAnd begun (λ b. Publishes old b new) → IsSeen new view
seen_checkpoint old new view seen None publishes = absurd publishes
seen_checkpoint old new view seen (Some b) publishes =
    seen_still old new view seen _ publishes.after refl refl refl refl

seen_torn_checkpoint : (old new : Stored) (view : View) → IsSeen old view → (begun : Option Begun)
    → IsSomeAnd begun (λ b. BreaksPublish old b new) → IsSeen new view
seen_torn_checkpoint old new view seen None breaks = absurd breaks
seen_torn_checkpoint old new view seen (Some b) breaks =
    seen_still old new view seen _ breaks.after refl refl refl refl

pub seen_no_checkpoint : (old new : Stored) (view : View) (cause : StoreFault) → IsSeen old view
    → NotPublished old cause new → IsSeen new view
seen_no_checkpoint old new view store_fault.NothingToDo seen n =
    seen_still old new view seen old n.1 refl refl refl refl
seen_no_checkpoint old new view store_fault.CkptBusy seen n =
    seen_still old new view seen old n.1 refl refl refl refl
seen_no_checkpoint old new view store_fault.LogBehind seen n =
    seen_still old new view seen old n.1 refl refl refl refl
seen_no_checkpoint old new view store_fault.Device seen n =
    seen_torn_checkpoint old new view seen old.begun n
seen_no_checkpoint old new view store_fault.Memory seen n = absurd n
seen_no_checkpoint old new view (store_fault.Invalid cause) seen n = absurd n
seen_no_checkpoint old new view store_fault.PoolFull seen n = absurd n
seen_no_checkpoint old new view store_fault.PageLent seen n = absurd n
seen_no_checkpoint old new view store_fault.NumbersSpent seen n = absurd n
seen_no_checkpoint old new view store_fault.LogFull seen n = absurd n
seen_no_checkpoint old new view (store_fault.BadPage page) seen n = absurd n

-- ---- what is not done changes neither the log nor the control states

ready_still : (old held : Stored) (receiver : Reception) (refused : Option Fault)
    → IsReady old receiver refused → held.log ≡ old.log → held.pages ≡ old.pages
    → held.control ≡ old.control → held.since ≡ old.since
    → IsReady held receiver refused
ready_still old held receiver refused r log pages control since = record {
  rests = record {
    meets = record {
      wanted = r.rests.meets.wanted ∙ sym (ap end_of log);
      pages =
          r.rests.meets.pages ∙ sym pages;
      takes = r.rests.meets.takes;
    };
    waits = ap (λ p. read_record p (end_of held.log) receiver.kept) pages
        ∙ ap (λ (l : List Record). read_record old.pages (end_of l) receiver.kept) log
        ∙ r.rests.waits;
    short = r.rests.short;
  };
  marks = omega (
    arith,
    r.marks,
    ap (λ (c : ControlState). c.mark.0) control,
    ap
        (λ (c : ControlState). (last_state c held.since).mark.0) control,
    ap
        (λ (cs : List ControlState). (last_state old.control cs).mark.0) since,
  );
  no_want = r.no_want;
}

serving_still : (old new : Stored) (receiver : Reception) (refused : Option Fault) (view : View)
    → IsServing old receiver refused view → (held : Stored) → new ≡ held → held.log ≡ old.log
    → held.pages ≡ old.pages
    → held.control ≡ old.control → held.since ≡ old.since → held.recovering ≡ old.recovering
    → IsServing new receiver refused view
serving_still old new receiver refused view serving held is log pages control since recovering =
    record {
      ready = subst (λ (h : Stored). IsReady h receiver refused) (sym is)
          (ready_still old held receiver refused serving.ready log pages control since);
      seen = seen_still old new view serving.seen held is log control pages recovering;
    }

-- a page that was read in vain
serving_in_vain : (old new : Stored) (receiver : Reception) (refused : Option Fault) (view : View)
    (page : ℕ) (cause : StoreFault) → IsServing old receiver refused view
    → ReadsInVain old page cause new → IsServing new receiver refused view
serving_in_vain old new receiver refused view page store_fault.NothingToDo s r =
    serving_still old new receiver refused view s _ r.after refl refl refl refl refl
serving_in_vain old new receiver refused view page store_fault.Device s r =
    serving_still old new receiver refused view s _ r.after refl refl refl refl refl
serving_in_vain old new receiver refused view page (store_fault.BadPage p) s r =
    serving_still old new receiver refused view s old r.after refl refl refl refl refl
serving_in_vain old new receiver refused view page store_fault.Memory s r =
    serving_still old new receiver refused view s old r refl refl refl refl refl
serving_in_vain old new receiver refused view page (store_fault.Invalid cause) s r = absurd r
serving_in_vain old new receiver refused view page store_fault.LogBehind s r = absurd r
serving_in_vain old new receiver refused view page store_fault.CkptBusy s r = absurd r
serving_in_vain old new receiver refused view page store_fault.PoolFull s r = absurd r
serving_in_vain old new receiver refused view page store_fault.PageLent s r = absurd r
serving_in_vain old new receiver refused view page store_fault.NumbersSpent s r = absurd r
serving_in_vain old new receiver refused view page store_fault.LogFull s r = absurd r

pub serving_not_lent : (old new : Stored) (receiver : Reception) (refused : Option Fault)
    (view : View) (page : ℕ) (cause : StoreFault) → IsServing old receiver refused view
    → NotLent old page cause new → IsServing new receiver refused view
serving_not_lent old new receiver refused view page cause s n = elim n [
  | inl lent ↦ serving_still old new receiver refused view s old lent.2 refl refl refl refl refl
  | inr other ↦ elim other [
    | inl none ↦ serving_still old new receiver refused view s old none.2 refl refl refl refl refl
    | inr vain ↦ serving_in_vain old new receiver refused view page cause s vain.reads
  ]
]

pub serving_not_flushed : (old new : Stored) (receiver : Reception) (refused : Option Fault)
    (view : View) (page : ℕ) (cause : StoreFault) → IsServing old receiver refused view
    → NotFlushed old page cause new → IsServing new receiver refused view
serving_not_flushed old new receiver refused view page store_fault.PageLent s n =
    serving_still old new receiver refused view s old n.1 refl refl refl refl refl
serving_not_flushed old new receiver refused view page store_fault.NothingToDo s n =
    serving_still old new receiver refused view s old n.2 refl refl refl refl refl
serving_not_flushed old new receiver refused view page store_fault.LogBehind s n =
    serving_still old new receiver refused view s old n.3 refl refl refl refl refl
serving_not_flushed old new receiver refused view page store_fault.Device s n =
    serving_still old new receiver refused view s _ n.after refl refl refl refl refl
serving_not_flushed old new receiver refused view page (store_fault.Invalid cause) s n = absurd n
serving_not_flushed old new receiver refused view page store_fault.LogFull s n = absurd n
serving_not_flushed old new receiver refused view page store_fault.CkptBusy s n = absurd n
serving_not_flushed old new receiver refused view page store_fault.PoolFull s n = absurd n
serving_not_flushed old new receiver refused view page store_fault.NumbersSpent s n = absurd n
serving_not_flushed old new receiver refused view page store_fault.Memory s n = absurd n
serving_not_flushed old new receiver refused view page (store_fault.BadPage p) s n = absurd n

pub serving_not_begun : (old new : Stored) (receiver : Reception) (refused : Option Fault)
    (view : View) (cause : StoreFault) → IsServing old receiver refused view
    → NotBegun old cause new → IsServing new receiver refused view
serving_not_begun old new receiver refused view store_fault.CkptBusy s n =
    serving_still old new receiver refused view s old n.1 refl refl refl refl refl
serving_not_begun old new receiver refused view store_fault.Memory s n =
    serving_still old new receiver refused view s old n.1 refl refl refl refl refl
serving_not_begun old new receiver refused view store_fault.NothingToDo s n = absurd n
serving_not_begun old new receiver refused view (store_fault.Invalid cause) s n = absurd n
serving_not_begun old new receiver refused view store_fault.LogBehind s n = absurd n
serving_not_begun old new receiver refused view store_fault.PoolFull s n = absurd n
serving_not_begun old new receiver refused view store_fault.PageLent s n = absurd n
serving_not_begun old new receiver refused view store_fault.NumbersSpent s n = absurd n
serving_not_begun old new receiver refused view store_fault.LogFull s n = absurd n
serving_not_begun old new receiver refused view store_fault.Device s n = absurd n
serving_not_begun old new receiver refused view (store_fault.BadPage p) s n = absurd n

pub serving_no_block : (old new : Stored) (receiver : Reception) (refused : Option Fault)
    (view : View) (cause : StoreFault) → IsServing old receiver refused view → NoBlock old cause new
    → IsServing new receiver refused view
serving_no_block old new receiver refused view store_fault.NothingToDo s n =
    serving_still old new receiver refused view s old n.1 refl refl refl refl refl
serving_no_block old new receiver refused view store_fault.Device s n =
    serving_still old new receiver refused view s _ n.1.after refl refl refl refl refl
serving_no_block old new receiver refused view store_fault.CkptBusy s n = absurd n
serving_no_block old new receiver refused view store_fault.Memory s n = absurd n
serving_no_block old new receiver refused view (store_fault.Invalid cause) s n = absurd n
serving_no_block old new receiver refused view store_fault.LogBehind s n = absurd n
serving_no_block old new receiver refused view store_fault.PoolFull s n = absurd n
serving_no_block old new receiver refused view store_fault.PageLent s n = absurd n
serving_no_block old new receiver refused view store_fault.NumbersSpent s n = absurd n
serving_no_block old new receiver refused view store_fault.LogFull s n = absurd n
serving_no_block old new receiver refused view (store_fault.BadPage p) s n = absurd n

pub serving_not_undone : (old new : Stored) (receiver : Reception) (refused : Option Fault)
    (view : View) (cause : StoreFault) → IsServing old receiver refused view
    → NotUndone old cause new → IsServing new receiver refused view
serving_not_undone old new receiver refused view store_fault.NothingToDo s n =
    serving_still old new receiver refused view s old n.1 refl refl refl refl refl
serving_not_undone old new receiver refused view store_fault.Memory s n =
    serving_still old new receiver refused view s old n.1 refl refl refl refl refl
serving_not_undone old new receiver refused view store_fault.CkptBusy s n = absurd n
serving_not_undone old new receiver refused view (store_fault.Invalid cause) s n = absurd n
serving_not_undone old new receiver refused view store_fault.LogBehind s n = absurd n
serving_not_undone old new receiver refused view store_fault.PoolFull s n = absurd n
serving_not_undone old new receiver refused view store_fault.PageLent s n = absurd n
serving_not_undone old new receiver refused view store_fault.NumbersSpent s n = absurd n
serving_not_undone old new receiver refused view store_fault.LogFull s n = absurd n
serving_not_undone old new receiver refused view store_fault.Device s n =
    serving_still old new receiver refused view s _ n.after refl refl refl refl refl
serving_not_undone old new receiver refused view (store_fault.BadPage p) s n = absurd n

-- what a commit would write is not collected
pub serving_not_collected : (old new : Stored) (receiver : Reception) (refused : Option Fault)
    (view : View) (cause : StoreFault) → IsServing old receiver refused view
    → NotCollected old cause new → IsServing new receiver refused view
serving_not_collected old new receiver refused view store_fault.Memory s n =
    serving_still old new receiver refused view s old n refl refl refl refl refl
serving_not_collected old new receiver refused view store_fault.Device s n =
    serving_still old new receiver refused view s _ n.after refl refl refl refl refl
serving_not_collected old new receiver refused view store_fault.NothingToDo s n = absurd n
serving_not_collected old new receiver refused view store_fault.CkptBusy s n = absurd n
serving_not_collected old new receiver refused view (store_fault.Invalid cause) s n = absurd n
serving_not_collected old new receiver refused view store_fault.LogBehind s n = absurd n
serving_not_collected old new receiver refused view store_fault.PoolFull s n = absurd n
serving_not_collected old new receiver refused view store_fault.PageLent s n = absurd n
serving_not_collected old new receiver refused view store_fault.NumbersSpent s n = absurd n
serving_not_collected old new receiver refused view store_fault.LogFull s n = absurd n
serving_not_collected old new receiver refused view (store_fault.BadPage p) s n = absurd n

-- room for a commit shows nothing, and the store is as it was
pub serving_roomy : (old new : Stored) (receiver : Reception) (refused : Option Fault)
    (before view : View) → IsServing old receiver refused before → new ≡ old
    → view ≡ record before { room = view.room } → IsServing new receiver refused view
serving_roomy old new receiver refused before view s same room =
    subst (λ (h : Stored). IsServing h receiver refused view) (sym same)
    (subst (λ (v : View). IsServing old receiver refused v) (sym room) (record {
      ready = s.ready;
      seen = record {
        shows = record { parts = s.seen.shows.parts; ended = s.seen.shows.ended; front = s.seen.shows.front };
        pages = s.seen.pages;
        listed = s.seen.listed;
        stable = s.seen.stable;
      };
    }))

pub serving_not_shown : (old new : Stored) (receiver : Reception) (refused : Option Fault)
    (view : View) (page : ℕ) (cause : StoreFault) → IsServing old receiver refused view
    → NotShown old page cause new → IsServing new receiver refused view
serving_not_shown old new receiver refused view page store_fault.Device s n =
    serving_still old new receiver refused view s _ n.after refl refl refl refl refl
serving_not_shown old new receiver refused view page (store_fault.BadPage p) s n =
    serving_still old new receiver refused view s old n.after refl refl refl refl refl
serving_not_shown old new receiver refused view page store_fault.NothingToDo s n = absurd n
serving_not_shown old new receiver refused view page store_fault.Memory s n = absurd n
serving_not_shown old new receiver refused view page (store_fault.Invalid cause) s n = absurd n
serving_not_shown old new receiver refused view page store_fault.LogBehind s n = absurd n
serving_not_shown old new receiver refused view page store_fault.CkptBusy s n = absurd n
serving_not_shown old new receiver refused view page store_fault.PoolFull s n = absurd n
serving_not_shown old new receiver refused view page store_fault.PageLent s n = absurd n
serving_not_shown old new receiver refused view page store_fault.NumbersSpent s n = absurd n
serving_not_shown old new receiver refused view page store_fault.LogFull s n = absurd n

-- ---- what is seen then

-- a new engine, of whose view nothing is queued
pub seen_new : (held : Stored) (view : View) → view.all ≡ [] → view.queued ≡ []
    → view.published ≡ Some [] → view.pages ≡ held.pages → held.log ≡ []
    → held.recovering ≡ false
    → ((offset : ℕ) (v : View) → v.all ≡ [] → listed_in v.published ≡ [] → v.queued ≡ []
    → IsShowing [] offset v) → IsSeen held view
seen_new held view none queued listed pages log ready start = record {
  shows = subst (λ (l : List Record). IsShowing l (acknowledged held) view) (sym log)
      (start (acknowledged held) view none (ap listed_in listed) queued);
  pages = pages;
  listed = ap (λ (p : Option (List Committed)). is_some (count_of p)) listed ∙ ap not (sym ready);
  stable = λ r. absurd (true≢false (sym r ∙ ready));
}

-- a view without a list and without a commit waits for those of the empty log
pub warms_none : (pages : ℕ) (view : View)
    → (view.all ≡ []) × (view.queued ≡ []) × (view.pages ≡ pages) × (view.published ≡ None)
    → IsWarming pages [] view
unfolding commits_of
warms_none pages view v = record { pages_are = v.2; unlisted = v.3; none = v.0; queued = v.1 }

-- an engine over devices that were taken up again: all commits of its log wait
pub serving_opened : (held from : Stored) (receiver : Reception) (view waiting : View)
    (end pages blocks failures attempts : ℕ) → held ≡ from → view ≡ waiting
    → IsOpened pages blocks failures attempts from
    → IsWarming pages from.log waiting → receiver ≡ fresh end pages → end ≡ end_of held.log
    → ((log : List Record) (offset : ℕ) (v : View) → v.all ≡ [] → listed_in v.published ≡ []
    → v.queued ≡ commits_of log → IsShowing log offset v) → IsServing held receiver None view
serving_opened held from receiver view waiting end pages blocks failures attempts same shown o w
    fresh_is at waits =
    subst (λ (v : View). IsServing held receiver None v) (sym shown)
    (subst (λ (h : Stored). IsServing h receiver None waiting) (sym same) (record {
      ready = ready_opened from receiver end pages (ap (λ (h : Stored). h.since) o.is) fresh_is
          (at ∙ ap (λ (h : Stored). end_of h.log) same) (sym (ap (λ (h : Stored). h.pages) o.is));
      seen = record {
        shows = waits from.log (acknowledged from) waiting w.none (ap listed_in w.unlisted) w.queued;
        pages = w.pages_are ∙ sym (ap (λ (h : Stored). h.pages) o.is);
        listed = ap (λ (p : Option (List Committed)). is_some (count_of p)) w.unlisted
            ∙ ap not (sym (ap (λ (h : Stored). h.recovering) o.is));
        stable = λ r. omega (arith, o.ends, ap (λ (h : Stored). acknowledged h) o.is);
      };
    }))

-- the log grew, and the view with it
pub seen_grown : (old new : Stored) (before view : View) (records : List Record) → IsSeen old before
    → new ≡ grown old records → ViewGoesOn old.log before new.log view → old.recovering ≡ false
    → IsSeen new view
seen_grown old new before view records seen is on ready = record {
  shows = subst (λ (n : ℕ). IsShowing new.log n view) (sym (ap (λ (h : Stored). acknowledged h) is))
      (on.shows (acknowledged old) seen.shows);
  pages = on.pages ∙ seen.pages ∙ sym (ap (λ (h : Stored). h.pages) is);
  listed = ap (λ (n : Option ℕ). is_some n) on.published ∙ seen.listed
      ∙ ap not (sym (ap (λ (h : Stored). h.recovering) is));
  stable = λ r. absurd (true≢false (sym r ∙ ap (λ (h : Stored). h.recovering) is ∙ ready));
}

-- a record of the tail is held
pub seen_undone : (old new : Stored) (view : View) (lsn : Lsn) → IsSeen old view
    → UndoesOne old lsn new → is_valid new.log ≡ true → old.recovering ≡ false
    → ((log : List Record) (r : Record) (offset : ℕ) (v : View) → is_valid (log ++ r ∷ []) ≡ true
    → is_commit r.body ≡ false → IsShowing log offset v → IsShowing (log ++ r ∷ []) offset v)
    → IsSeen new view
seen_undone old new view lsn seen undoes valid ready other =
    let log : new.log ≡ old.log ++ undoes.made ∷ [] = ap (λ (h : Stored). h.log) undoes.after in
    let on : ViewGoesOn old.log view new.log view =
    subst (λ (l : List Record). ViewGoesOn old.log view l view) (sym log) (record {
      shows = λ offset h. other old.log undoes.made offset view (sym (ap is_valid log) ∙ valid)
          (tail-no_commit old.log undoes.made undoes.rest undoes.first) h;
      published = refl;
      pages = refl;
      book = refl;
    }) in
    seen_grown old new view view (undoes.made ∷ []) seen undoes.after on ready

-- a transaction in doubt is decided, and its commit waits, if that makes one
pub seen_resolved : (old new : Stored) (before mid view : View) (trans : ℕ) (verdict : Decision)
    (lsn : Lsn) → IsSeen old before → Resolves old trans verdict lsn new
    → old.recovering ≡ false → mid ≡ record before { room = mid.room }
    → ((offset : ℕ) → IsShowing old.log offset mid
    → IsShowing (old.log ++ decision old.log trans (decision_body verdict) ∷ []) offset view)
    → view.published ≡ mid.published → (view.pages ≡ mid.pages) × (view.book ≡ mid.book)
    → IsSeen new view
seen_resolved old new before mid view trans verdict lsn seen resolves ready room shows published same =
    seen_grown old new before view (decision old.log trans (decision_body verdict) ∷ []) seen
    resolves.after
    (goes_on_taken old new (decision old.log trans (decision_body verdict)) before mid view
    resolves.after room shows published same) ready

-- more of the log is acknowledged
pub seen_synced : (old new : Stored) (view : View) (lsn : Lsn) → IsSeen old view
    → acknowledged old ≤ (newest old).mark.0 → SyncsControl old lsn new
    → ((log : List Record) (before after : ℕ) (v : View) → before ≤ after → IsShowing log before v
    → IsShowing log after v) → IsSeen new view
seen_synced old new view lsn seen marks syncs rises =
    subst (λ (h : Stored). IsSeen h view) (sym syncs.after) (record {
      shows = rises old.log (acknowledged old) (newest old).mark.0 view marks seen.shows;
      pages = seen.pages;
      listed = seen.listed;
      stable = λ r. let low : end_of old.log ≤ acknowledged old =
          seen.stable r in omega (arith, low, marks);
    })

-- ---- what is published

-- all that is acknowledged
pub seen_published : (held : Stored) (before view : View) (count : ℕ) → IsSeen held before
    → held.recovering ≡ false → IsShowing held.log (acknowledged held) view
    → view.pages ≡ before.pages
    → published_of view ≡ Some count → IsSeen held view
seen_published held before view count seen ready shows pages published = record {
  shows = shows;
  pages = pages ∙ seen.pages;
  listed = ap (λ (n : Option ℕ). is_some n) published ∙ ap not (sym ready);
  stable = λ r. absurd (true≢false (sym r ∙ ready));
}

-- and then the recovery ends
pub seen_ready : (held new : Stored) (before view : View) (count : ℕ) → IsSeen held before
    → new ≡ record held { recovering = false } → IsShowing held.log (acknowledged held) view
    → view.pages ≡ before.pages
    → published_of view ≡ Some count → IsSeen new view
seen_ready held new before view count seen is shows pages published =
    subst (λ (h : Stored). IsSeen h view) (sym is) (record {
      shows = shows;
      pages = pages ∙ seen.pages;
      listed = ap (λ (n : Option ℕ). is_some n) published;
      stable = λ r. absurd (true≢false (sym r));
    })

ready_as_it_is : (held : Stored) (receiver : Reception) (refused : Option Fault)
    → IsReady held receiver refused → IsReady (record held { recovering = false }) receiver refused
ready_as_it_is held receiver refused r = record {
  rests = record {
    meets =
        record {
          wanted = r.rests.meets.wanted;
          pages = r.rests.meets.pages;
          takes =
              r.rests.meets.takes;
        };
    waits = r.rests.waits;
    short = r.rests.short;
  };
  marks = r.marks;
  no_want = r.no_want;
}

pub ready_after : (held new : Stored) (receiver : Reception) (refused : Option Fault)
    → IsReady held receiver refused → new ≡ record held { recovering = false }
    → IsReady new receiver refused
ready_after held new receiver refused r is =
    subst (λ (h : Stored). IsReady h receiver refused) (sym is)
    (ready_as_it_is held receiver refused r)

-- ---- the events

pub publishes_view : (m new : Machine) → m.held.broken ≡ false → m.held.recovering ≡ false
    → m.published < ended_in m.held → new ≡ record m { listed = true; published = ended_in m.held }
    → PublishesView m (Ok tt) new
publishes_view m new running ready more is =
    acting m step.PublishView (PublishesEnded m) (Ok tt) new
    (rw (running, ready, lt-leb (ended_in m.held) m.published more) refl) (more, is)

pub becomes_ready : (m new : Machine) → m.held.broken ≡ false → m.held.recovering ≡ true
    → pending_of m.held ≡ 0 → new ≡ readied m → Readies m (Ok tt) new
becomes_ready m new running recovering none is =
    acting m step.Ready (BecomesReady m) (Ok tt) new (rw (running, recovering, none) refl) is

-- each acknowledged commit is published
pub none_to_publish : (m : Machine) → m.held.broken ≡ false → m.held.recovering ≡ false
    → ended_in m.held ≤ m.published → PublishesView m (Err fault.NothingToDo) m
none_to_publish m running ready all =
    let e : refusal m step.PublishView ≡ Some fault.NothingToDo =
    rw (running, ready, le-leb (ended_in m.held) m.published all) refl in
    subst (λ (o : Option Fault). MatchOption o (PublishesEnded m (Err fault.NothingToDo) m)
    (λ cause. (◌≡◌ {A = Result (Unit {0}) Fault} (Err fault.NothingToDo) (Err cause))
    × (m ≡ m))) (sym e) (refl, refl)

-- whether there is more to publish
unfoldable pub AllPublished : Stored → View → ℕ → Type 0
AllPublished held view at =
    (log : List Record) (below : ℕ) → is_valid log ≡ true → below ≤ at → IsShowing log below view
    → length (listed_in view.published) ≡ ended_count at (commits_of log)

unfoldable pub MorePublished : Stored → View → ℕ → Type 0
MorePublished held view at =
    (log : List Record) (below : ℕ) → is_valid log ≡ true → below ≤ at → IsShowing log below view
    → length (listed_in view.published) < ended_count at (commits_of log)

pub all_published : (held : Stored) (view : View) (at : ℕ) → IsSeen held view
    → is_valid held.log ≡ true → at ≡ acknowledged held → AllPublished held view at
    → ended_in held ≤ count_in (published_of view)
unfolding AllPublished
all_published held view at seen valid is all =
    omega (
      arith,
      listed_count view.published,
      all held.log (acknowledged held) valid (omega (arith, is)) seen.shows,
      ap (λ n. ended_count n (commits_of held.log)) is,
    )

pub more_published : (held : Stored) (view : View) (at : ℕ) → IsSeen held view
    → is_valid held.log ≡ true → at ≡ acknowledged held → MorePublished held view at
    → count_in (published_of view) < ended_in held
unfolding MorePublished
more_published held view at seen valid is more =
    omega (
      arith,
      listed_count view.published,
      more held.log (acknowledged held) valid (omega (arith, is)) seen.shows,
      ap (λ n. ended_count n (commits_of held.log)) is,
    )

-- a view that publishes, or keeps what is published
abbrev pub KeepsShowing : View → View → ℕ → Type 0
KeepsShowing old new at =
    (log : List Record) (below : ℕ) → below ≤ at → IsShowing log below old → IsShowing log at new

abbrev pub IsPublishing : View → View → ℕ → Type 0
IsPublishing old new at =
    (log : List Record) (below : ℕ) → is_valid log ≡ true → below ≤ at → IsShowing log below old
    → published_of new ≡ Some (ended_count at (commits_of log))

pub record PublishedIn (held : Stored) (view : View) : Type 0 where
  pub shows : IsShowing held.log (acknowledged held) view
  pub list : published_of view ≡ Some (ended_in held)

pub still_shows : (held : Stored) (old new : View) (at : ℕ) → IsSeen held old
    → at ≡ acknowledged held → KeepsShowing old new at
    → IsShowing held.log (acknowledged held) new
still_shows held old new at seen is shows =
    subst (λ (n : ℕ). IsShowing held.log n new) is
    (shows held.log (acknowledged held) (omega (arith, is)) seen.shows)

pub published_in : (held : Stored) (old new : View) (at : ℕ) → IsSeen held old
    → is_valid held.log ≡ true → at ≡ acknowledged held → KeepsShowing old new at
    → IsPublishing old new at → PublishedIn held new
published_in held old new at seen valid is shows publishes = record {
  shows = still_shows held old new at seen is shows;
  list = publishes held.log (acknowledged held) valid (omega (arith, is)) seen.shows
      ∙ ap (λ n. Some (ended_count n (commits_of held.log))) is;
}

-- a publish for which allocation failed
pub seen_kept : (held : Stored) (old new : View) (at : ℕ) → IsSeen held old
    → at ≡ acknowledged held → KeepsShowing old new at → new.pages ≡ old.pages
    → new.published ≡ old.published → IsSeen held new
seen_kept held old new at seen is shows pages published = record {
  shows = still_shows held old new at seen is shows;
  pages = pages ∙ seen.pages;
  listed = ap (λ (p : Option (List Committed)). is_some (count_of p)) published ∙ seen.listed;
  stable = seen.stable;
}

pub publish_refused : (m : Machine) → m.held.broken ≡ false → m.held.recovering ≡ false
    → m.published < ended_in m.held → PublishesView m (Err fault.Memory) m
publish_refused m running ready more =
    acting m step.PublishView (PublishesEnded m) (Err fault.Memory) m
    (rw (running, ready, lt-leb (ended_in m.held) m.published more) refl) (refl, refl)

pub ready_refused : (m : Machine) → m.held.broken ≡ false → m.held.recovering ≡ true
    → pending_of m.held ≡ 0 → Readies m (Err fault.Memory) m
ready_refused m running recovering none =
    acting m step.Ready (BecomesReady m) (Err fault.Memory) m
    (rw (running, recovering, none) refl) (refl, refl)

-- ---- what readers are told

-- a list of published commits is the first commits of the log, as many as it has
pub front_told : (commits all queued : List Committed) (published : Option (List Committed))
    → commits ≡ all ++ queued → IsPublishedOf all published
    → published ≡ (if is_some (count_of published) then Some (take (count_in (count_of published)) commits) else None)
front_told commits all queued None parts front = refl
front_told commits all queued (Some list) parts front =
    let whole : commits ≡ list ++ (front.0 ++ queued) = parts ∙ ap (λ (l : List Committed). l ++ queued) (sym front.1) ∙ append_assoc list front.0 queued in
    ap (λ (l : List Committed). Some l) (sym (ap (λ (l : List Committed). take (length list) l) whole
    ∙ take_at list (front.0 ++ queued) (length list) refl))

pub view_told : (log : List Record) (offset : ℕ) (view : View) → IsShowing log offset view
    → view.published ≡ (if is_some (published_of view) then Some (take (count_in (published_of view)) (commits_of log)) else None)
view_told log offset view shows = front_told (commits_of log) view.all view.queued view.published shows.parts shows.front
