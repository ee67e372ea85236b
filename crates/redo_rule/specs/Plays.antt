-- What each step of the table tells its seat: the actor's state took an answer, and what it may do next.
use Rattle.std.specs.Prelude.{Bool, List, None, Option, Some, [], cond, false, length, map, true, suc, zero, ℕ, ◌%◌, ◌++◌, ◌+◌, ◌∷◌, ◌≡◌, ◌≢◌, is_some, ◌<◌}
use lib.ListN.{get_elem?}
use mathlib.Core.Option.{some}
use Rattle.atomic_table.specs.Table.{Me, rest}
use Rattle.model_core.specs.{archives, filled, Filling, Fills, lent, next, oldest_end, OpWords, took, UserState, Each, oldest_of, AnswerFits, GivesFailed, hand, IsFreeToCheck}
use Rattle.model_core.specs.States as model
use Rattle.model_core.specs.Program.{Turn}
use Rattle.model_core.specs.declared.limits.TheConstants.{FLUSH_LISTS, CLOSED_LINKS}
use Rattle.model_core.specs.declared.ops.Answer.{Answer}
use Rattle.model_core.specs.declared.ops.Answer.TheVariants as answer
use Rattle.model_core.specs.declared.ops.Op.{Op}
use Rattle.model_core.specs.declared.ops.Op.TheVariants as op
use Rattle.model_core.specs.declared.ops.Step.{Step}
use Rattle.model_core.specs.declared.steps.UserStep.TheVariants as user_step
use Rattle.model_core.specs.declared.words.Layout.{Layout}
use Rattle.redo_archiver.specs.{append_answer}
use Rattle.redo_disk.specs.{Seen}
use Rattle.redo_disk.specs.declared.error.DevError.{DevError}
use Rattle.redo_flushlist.specs.{Listing, without_page}
use Rattle.redo_drive.specs.{call_answer, listed_of, DataReady, HasWholePages, LogReady, RunOf, run_data_side, run_log_side, told_by, groups_of, RunsWith, core_of, handed_by, MarkFits}
use Rattle.redo_drive.specs.Reserved.{HasGroups}
use Rattle.redo_drive.specs.declared.device.Device.TheVariants.{Data, Log}
use Rattle.redo_drive.specs.declared.parts.Parts.{Parts}
use Rattle.redo_rule.specs.Handing.{appended_by, with_more}
use Rattle.redo_rule.specs.Ruled.{IsRunAbout}
use Rattle.redo_rule.specs.declared.law.About.{About}
use Rattle.redo_rule.specs.declared.law.Desk.{Desk}
use Rattle.redo_rule.specs.declared.law.Heard.{Heard}
use Rattle.redo_rule.specs.declared.law.Keeping.{Keeping}
use Rattle.redo_rule.specs.declared.law.Numbered.{Numbered}
use Rattle.redo_rule.specs.declared.law.Slot.{Slot}
use Rattle.redo_rule.specs.declared.law.Slot.TheVariants as slot
use Rattle.redo_rule.specs.declared.law.TheConstants.{DATA_SLOT, LOG_SLOT}
use Rattle.redo_rule.specs.declared.law.View.{View}
use Rattle.redo_store.specs.Part as store
use Rattle.redo_words.specs.{Lends}
use Rattle.redo_words.specs.declared.lent.Lent.{Lent}

-- a seat's actor after it, with what the turn put into it, and all that it has handed on then
abbrev pub behind : Numbered → Filling → Answer → Numbered
behind x f r = record {
  number = x.number;
  actor = took (filled x.actor f) r;
  heard = with_more x.heard (handed_by (filled x.actor f)) (appended_by x.actor);
  errand = x.errand;
}

-- a turn put nothing into an actor, or this block alone
abbrev pub block_filling : List ℕ → Filling
block_filling bytes = record { block = bytes; texts = [] }

abbrev pub no_filling : Filling
no_filling = block_filling []

-- the archiver, which hands on nothing, keeps the texts that it has
abbrev pub KeepsTexts : model.Actor → Filling → Type 0
KeepsTexts (model.Reader r) f = archives r ≡ true → f.texts ≡ r.texts
KeepsTexts _ f = Unit {0}

-- the answer to whoever gets the log part
abbrev pub taking : Bool → Answer
taking broken = cond broken answer.Broken (answer.Taken None)

-- the Op takes the list in this slot
abbrev pub TakesList : Op → ℕ → Type 0
TakesList (op.TakeAdd p x) k = k ≡ suc (p % FLUSH_LISTS)
TakesList (op.TakeRemove p) k = k ≡ suc (p % FLUSH_LISTS)
TakesList (op.TakeOldest i) k = k ≡ suc i
TakesList _ k = ⊥

-- what it makes of the list, and what it reads off it
abbrev pub list_behind : Op → Listing → Listing
list_behind (op.TakeAdd p x) l = record { pages = l.pages; entries = l.entries ++ (record { page = p; oldest = x }) ∷ [] }
list_behind (op.TakeRemove p) l = record { pages = l.pages; entries = without_page p l.entries }
list_behind _ l = l

abbrev pub list_said : Op → Listing → Option ℕ
list_said (op.TakeOldest i) l = oldest_end (map listed_of l.entries)
list_said _ l = None

-- the conditions of a list's call
abbrev pub ListFits : Op → Listing → Type 0
ListFits (op.TakeAdd p x) l = (p < l.pages) × (oldest_of p (map listed_of l.entries) ≡ 0) × Each (λ y. y.oldest < x + CLOSED_LINKS) (map listed_of l.entries) × Each (λ y. 0 < y.oldest) (map listed_of l.entries)
ListFits (op.TakeRemove p) l = 0 < oldest_of p (map listed_of l.entries)
ListFits _ l = Unit {0}

module _ {L D : Type 0} where
  -- what a seat knows once its actor took an answer, and once the data part is taken out of its slot
  abbrev pub view_behind : View L D → Numbered → Filling → Answer → Option (Slot L D) → Option (Keeping D) → View L D
  view_behind v x f r held stored = record {
    about = v.about;
    layout = v.layout;
    seats = behind x f r ∷ [];
    held = held;
    data_part = stored;
  }

  abbrev pub view_reaching : View L D → store.Part D → View L D
  view_reaching v d = record {
    about = v.about;
    layout = v.layout;
    seats = v.seats;
    held = v.held;
    data_part = Some (record { part = d; out = true });
  }

  -- what an actor may do next, with what its seat has
  pub record MayGo (layout : Layout) (held : Option (Slot L D)) (stored : Option (Keeping D)) (a : model.Actor) : Type 0 where
    pub there : OpWords layout (next a)
    pub log : (desk : Desk L) → held ≡ Some (slot.Log desk) → hand a ≡ Some LOG_SLOT → (l : Lent) → Lends l
        (lent a) → LogReady desk.part l (next a)
    pub data_part : (d : Keeping D) → stored ≡ Some d → (l : Lent) → Lends l (lent a) → DataReady d.part l (next a)
    pub whole : (d : Keeping D) → stored ≡ Some d → HasWholePages d.part.shape (next a) (lent a)
    pub free : IsFreeToCheck a
    pub rest : next a ≡ op.Rest → AnswerFits a answer.Rested × MarkFits a answer.Rested
    pub give : next a ≡ op.GiveDevice → AnswerFits a (answer.Taken None) × MarkFits a (answer.Taken None)
    -- a user that has ended well has all its commits answered
    pub done : (u : UserState) → a ≡ model.User u → u.step ≡ user_step.Done → u.k ≡ length u.lines
    -- and has reserved no more groups; and each group that a user has reserved ends at an sn
    pub no_more : (u : UserState) → a ≡ model.User u → u.step ≡ user_step.Done → length u.starts ≡ u.k
    pub groups : HasGroups a

  -- a seat carries the slot that its actor holds
  abbrev pub Carries : Option ℕ → Me (Slot L D) (View L D) → Type 0
  Carries None me = me.1 ≡ []
  Carries (Some zero) me = (desk : Desk L) × (me.1 ≡ (LOG_SLOT, slot.Log desk) ∷ []) × (me.0.held ≡ Some
      (slot.Log desk))
  Carries (Some (suc i)) me = (l : Listing) × (me.1 ≡ (suc i, slot.Pages l) ∷ []) × (me.0.held ≡ Some (slot.Pages l))

  -- the data part is taken out of its slot, and nothing else changes
  abbrev pub reached : Me (Slot L D) (View L D) → ℕ → Me (Slot L D) (View L D) → Type 0
  reached m n m' = (d : store.Part D) → m.0.data_part ≡ Some (record { part = d; out = false })
      → m' ≡ (view_reaching m.0 d, (DATA_SLOT, slot.Data d) ∷ m.1)

module _ {L D : Type 0} (log_seen : L → Seen) (data_seen : D → Seen) where
  -- THERE WAS A MOMENT in the run that the table is about, as its seat was told, at which the invariant held, and one
  -- turn of the definition was this actor's, with this answer; its step ended so. What the actor had handed on by then
  -- was, where the log device told, the groups of the log up to its place: for a follower those that end at or below it.
  pub record Shown (told : Option (About L D)) (number : ℕ) (heard : Heard) (a : model.Actor) (r : Answer) : Type 0 where
    pub about : About L D
    pub about_is : told ≡ Some about
    pub run : RunOf L D
    pub is_about : IsRunAbout log_seen data_seen about run
    pub old : Parts L D
    pub actors : List model.Actor
    pub runs : RunsWith log_seen data_seen run about.plan.archive old actors
    pub new : Parts L D
    pub after : List model.Actor
    pub runs_on : RunsWith log_seen data_seen run about.plan.archive new after
    pub at : get_elem? actors number ≡ some a
    pub hears : (run_log_side log_seen data_seen run).Tells old.log → heard.groups ≡ groups_of a runs.running.log_ghost.log
    -- where it gives the log part back after a failed call, its code is one that the part has
    pub has_cause : (code : ℕ) → GivesFailed a code → (run_log_side log_seen data_seen run).Cause old.log code
    pub ends : Step
    pub turn : Turn (run_log_side log_seen data_seen run) (run_data_side log_seen data_seen run)
        (core_of log_seen data_seen run old actors) number r ends (core_of log_seen data_seen run new after)

  -- the seat's actor took an answer, with what its turn put into it
  pub record Stepped (x : Numbered) (f : Filling) (r : Answer) (held : Option (Slot L D)) (stored : Option (Keeping D)) (carried : List (ℕ × Slot L D)) (m m' : Me (Slot L D) (View L D)) : Type 0 where
    pub fits : AnswerFits x.actor r
    pub mark : MarkFits x.actor r
    pub shown : Shown m.0.about x.number x.heard x.actor r
    pub filling : shown.turn.filling ≡ f
    pub is : m' ≡ (view_behind m.0 x f r held stored, carried)
    pub may : MayGo m.0.layout held stored (took (filled x.actor f) r)

  -- a step on a word: the number found is the answer
  abbrev pub saw : Me (Slot L D) (View L D) → ℕ → Me (Slot L D) (View L D) → Type 0
  saw m n m' = (x : Numbered) → m.0.seats ≡ x ∷ [] → Stepped x no_filling (answer.Old n) m.0.held m.0.data_part m.1 m m'

  -- the taking of the log part
  abbrev pub seized : Me (Slot L D) (View L D) → ℕ → Me (Slot L D) (View L D) → Type 0
  seized m n m' = (x : Numbered) → m.0.seats ≡ x ∷ []
      → (n ≡ 0 → (desk : Desk L)
      × Stepped x no_filling (taking (is_some desk.part.failed)) (Some (slot.Log desk)) m.0.data_part
      ((LOG_SLOT, slot.Log desk) ∷ m.1) m m')
      × (n ≢ 0 → Stepped x no_filling answer.Held m.0.held m.0.data_part m.1 m m')

  -- the taking of a flush list, whose call is to follow
  abbrev pub seized_list : Me (Slot L D) (View L D) → ℕ → Me (Slot L D) (View L D) → Type 0
  seized_list m n m' = (x : Numbered) (k : ℕ) → m.0.seats ≡ x ∷ [] → TakesList (next x.actor) k
      → (n ≡ 0 → (l : Listing) × ListFits (next x.actor) l
      × Stepped x no_filling (answer.Taken (list_said (next x.actor) l)) (Some (slot.Pages (list_behind (next x.actor) l))) m.0.data_part ((k, slot.Pages l) ∷ m.1) m m')
      × (n ≢ 0 → Stepped x no_filling answer.Held m.0.held m.0.data_part m.1 m m')

  -- a turn word is given back with its slot, whatever the turn put into the actor: a follower's groups in front are one list
  abbrev pub gave : Me (Slot L D) (View L D) → ℕ → Me (Slot L D) (View L D) → Type 0
  gave m n m' = (x : Numbered) (f : Filling) → m.0.seats ≡ x ∷ [] → Fills x.actor f → KeepsTexts x.actor f
      → Stepped x f (answer.Taken None) None m.0.data_part (rest m.1) m m'

  -- after a call of the log part, which put the block that was read last into the actor, if it was a read
  abbrev pub called : Me (Slot L D) (View L D) → ℕ → Me (Slot L D) (View L D) → Type 0
  called m n m' = (x : Numbered) (desk : Desk L) → m.0.seats ≡ x ∷ [] → m.1 ≡ (LOG_SLOT, slot.Log desk) ∷ []
      → Stepped x (block_filling desk.block) (call_answer Log desk.part.failed (told_by (next x.actor) desk.part.marks.stable))
      (Some (slot.Log desk)) m.0.data_part m.1 m m'

  -- after a call of the data part, which is back in its slot
  abbrev pub batched : Me (Slot L D) (View L D) → ℕ → Me (Slot L D) (View L D) → Type 0
  batched m n m' = (x : Numbered) (e : store.Part D) → m.0.seats ≡ x ∷ [] → m.1 ≡ (DATA_SLOT, slot.Data e) ∷ []
      → Stepped x no_filling (call_answer Data e.failed 0) m.0.held (Some (record { part = e; out = false })) (rest m.1) m m'

  -- after an append to the archive, which has met this
  abbrev pub appended : Option DevError → Me (Slot L D) (View L D) → ℕ → Me (Slot L D) (View L D) → Type 0
  appended met m n m' = (x : Numbered) → m.0.seats ≡ x ∷ [] → Stepped x no_filling (append_answer met) m.0.held m.0.data_part m.1 m m'

  -- a look that changes nothing: what the actor may do
  abbrev pub looked : Me (Slot L D) (View L D) → ℕ → Me (Slot L D) (View L D) → Type 0
  looked m n m' = (m' ≡ m) × ((x : Numbered) → m.0.seats ≡ x ∷ [] → MayGo m.0.layout m.0.held m.0.data_part x.actor)
