-- The rule of the table: the invariant of a run, over the words, both parts, the lists and the actors' states, and where
-- each of these is: in a home slot, or with the seat that holds it.
use Rattle.std.specs.Prelude.{Bool, IfSome, List, None, Option, Some, [], cond, false, is_some, length, slice_index, suc, true, zero, ℕ, ◌+◌, ◌∷◌, ◌≡◌, ◌≢◌}
use lib.ListN.{get_elem?}
use mathlib.Core.Option.{some}
use Rattle.atomic_table.specs.Table.{State}
use Rattle.model_own.specs.{has_work}
use Rattle.model_own.specs.declared.errand.ErrandStep.TheVariants as errand_step
use Rattle.model_core.specs.States as model
use Rattle.model_script.specs.declared.script.ScriptLine.{ScriptLine}
use Rattle.model_theorem.specs.{IsStart}
use Rattle.model_store.specs.{Reading}
use Rattle.redo_disk.specs.{Call, Seen}
use Rattle.redo_drive.specs.Beginning.{HaveBegun, IsRunWith}
use Rattle.redo_drive.specs.{HasReading, CallsOn, AreLists, listing_at, RunOf, run_log_side, RunsWith}
use Rattle.redo_drive.specs.LiveActors.{live_actors}
use Rattle.redo_drive.specs.Setups.{seated_actors}
use Rattle.redo_drive.specs.declared.parts.Parts.{Parts}
use Rattle.redo_words.specs.{shape_layout}
use Rattle.model_core.specs.{GivesFailed, hand, IsFreeToCheck}
use Rattle.redo_rule.specs.Handing.{HaveHandedOn, HaveLoaded, HaveRead, nothing}
use Rattle.redo_rule.specs.Lively.{HasRoom}
use Rattle.redo_rule.specs.OwnSide.{Beside, desk_with, HasItsWork, SitsAs}
use Rattle.redo_rule.specs.Places.{HasTurn, turn_word}
use Rattle.redo_rule.specs.declared.law.About.{About}
use Rattle.redo_rule.specs.declared.law.Errand.{Errand}
use Rattle.redo_rule.specs.declared.law.Heard.{Heard}
use Rattle.redo_rule.specs.declared.law.Keeping.{Keeping}
use Rattle.redo_rule.specs.declared.law.Live.{Live}
use Rattle.redo_rule.specs.declared.law.Numbered.{Numbered}
use Rattle.redo_rule.specs.declared.law.Slot.{Slot}
use Rattle.redo_rule.specs.declared.law.Slot.TheVariants as slot
use Rattle.redo_rule.specs.declared.law.TheConstants.{DATA_SLOT, LOG_SLOT, SLOTS}
use Rattle.redo_rule.specs.declared.law.View.{View}

-- the actors, each with its number and with what one of this number has handed on, and no user that writes for itself among
-- them
abbrev pub numbered : (ℕ → Heard) → ℕ → List model.Actor → List Numbered
numbered heard k [] = []
numbered heard k (x ∷ xs) =
    record { number = k; actor = x; heard = heard k; errand = None } ∷ numbered heard (k + 1) xs

-- the same where users write for themselves: each is on no errand, and nobody sits as the writer or the flusher
abbrev pub own_numbered : ℕ → List model.Actor → List Numbered
own_numbered k [] = []
own_numbered k (model.User u ∷ xs) = record {
  number = k;
  actor = model.User u;
  heard = nothing;
  errand = Some (record { step = errand_step.Done; helped = false });
} ∷ own_numbered (k + 1) xs
own_numbered k (model.Writer s ∷ xs) = own_numbered (k + 1) xs
own_numbered k (model.Flusher t ∷ xs) = own_numbered (k + 1) xs
own_numbered k (x ∷ xs) = record { number = k; actor = x; heard = nothing; errand = None } ∷ own_numbered (k + 1) xs

-- none has handed on anything
abbrev pub none_heard : ℕ → Heard
none_heard number = nothing

-- one of the actors holds the slot
abbrev pub IsSlotHeld : List model.Actor → ℕ → Type 0
IsSlotHeld actors k = (n : ℕ) × (a : model.Actor) × (get_elem? actors n ≡ some a) × (hand a ≡ Some k)

module _ {L D : Type 0} where
  -- what belongs in a slot that has a turn word: the log part, with what lies beside it, or a flush list
  abbrev pub slot_content : Parts L D → Beside → ℕ → Slot L D
  slot_content parts beside zero = slot.Log (desk_with parts.log beside)
  slot_content parts beside (suc i) = slot.Pages (listing_at parts.lists.lists i)

  -- the actors of a table's run as it begins: those of the script that the table is told, or of a live run
  abbrev pub starts_with : About L D → Option Live → List model.Actor
  starts_with about None = seated_actors about.opened.value.shape about.script.value about.opened.value.start about.plan
  starts_with about (Some live) = live_actors about.opened.value.shape live.users about.opened.value.start about.plan

  abbrev pub starts_about : About L D → List model.Actor
  starts_about about = starts_with about about.live

  -- who sits in the first seat
  abbrev pub first_seats : About L D → List Numbered
  first_seats about = cond about.own_writes (own_numbered 0 (starts_about about))
      (numbered none_heard 0 (starts_about about))

  -- the first seat has all actors and the data part
  abbrev pub first_view : About L D → View L D
  first_view about = record {
    about = Some about;
    layout = shape_layout about.opened.value.shape;
    seats = first_seats about;
    held = None;
    data_part = Some (record { part = about.opened.value.store; out = false });
  }

  -- What a seat knows of its table, and of a run with these parts and actors, each of which has handed on what `heard` has
  -- of its number. `seat_of` gives the seat of an actor, `keeper` that of the data part, and `out` tells whether that is out
  -- of its slot.
  pub record Knows (about : About L D) (parts : Parts L D) (beside : Beside) (actors : List model.Actor) (heard : ℕ → Heard)
      (seat_of : ℕ → ℕ) (keeper : ℕ) (out : Bool) (id : ℕ) (v : View L D) : Type 0 where
    pub told : (i : ℕ) (x : Numbered) → get_elem? v.seats i ≡ some x → v.about ≡ Some about
    pub layout : (i : ℕ) (x : Numbered) → get_elem? v.seats i ≡ some x → v.layout ≡ parts.words.layout
    pub mine : (i : ℕ) (x : Numbered) → get_elem? v.seats i ≡ some x → (seat_of x.number ≡ id) × (get_elem? actors x.number ≡ some x.actor) × (heard x.number ≡ x.heard)
    pub free : (i : ℕ) (x : Numbered) → get_elem? v.seats i ≡ some x → IsFreeToCheck x.actor
    pub held : (i : ℕ) (x : Numbered) (k : ℕ) → get_elem? v.seats i ≡ some x → hand x.actor ≡ Some k → v.held ≡ Some (slot_content parts beside k)
    -- a user that writes for itself, and has the log's work in hand, has it with the log part
    pub errand : (i : ℕ) (x : Numbered) → get_elem? v.seats i ≡ some x → SitsAs beside.own x.errand x.number
    pub work : (i : ℕ) (x : Numbered) (e : Errand) → get_elem? v.seats i ≡ some x → x.errand ≡ Some e
        → has_work e.step ≡ true → v.held ≡ Some (slot_content parts beside LOG_SLOT)
    pub data_part : (d : Keeping D) → v.data_part ≡ Some d → (keeper ≡ id) × (d.part ≡ parts.store) × (out ≡ d.out)

module _ {L D : Type 0} (log_seen : L → Seen) (data_seen : D → Seen) where
  -- The run is that of the script on the opened store, whose devices held it if they told so. The script is that which the
  -- table was told, and of a live run what was handed in, for which there is room.
  pub record IsRunAbout (about : About L D) (run : RunOf L D) : Type 0 where
    pub script : List ScriptLine
    pub fixed : about.live ≡ None → script ≡ about.script.value
    pub is_run : IsRunWith about.opened.value script (is_some about.live) about.plan run
    pub room : (live : Live) → about.live ≡ Some live
        → HasRoom live about.opened.value.shape script (length (starts_about about)) run.setup
    pub begun : (reading : Reading) → HasReading reading about.opened.value
        → IfSome (log_seen about.opened.value.log.dev).tells (λ log_disk. IfSome (data_seen about.opened.value.store.dev).tells (λ data_disk.
        IsStart reading about.script.value log_disk data_disk → HaveBegun log_seen data_seen run))

pub record Ruled {L D : Type 0} (log_seen : L → Seen) (log_gives : L → Call → L → Type 0) (data_seen : D → Seen) (data_gives : D → Call → D → Type 0)
    (about : About L D) (s : State (Slot L D) (View L D)) : Type 0 where
  pub run : RunOf L D
  pub is_about : IsRunAbout log_seen data_seen about run
  -- both parts and the lists, wherever they are, and the actors' states
  pub parts : Parts L D
  -- what lies beside the log part
  pub beside : Beside
  pub actors : List model.Actor
  -- all that each has handed on
  pub heard : ℕ → Heard
  pub words_are : parts.words.words ≡ s.words
  pub lists_are : AreLists parts.lists
  -- where users write for themselves, the writer and the flusher among the actors are the log's work
  pub own_is : about.own_writes ≡ is_some beside.own
  pub own : HasItsWork (run_log_side log_seen data_seen run) parts.log beside.own actors
  pub runs : RunsWith log_seen data_seen run about.plan.archive parts actors
  pub hears : HaveHandedOn (run_log_side log_seen data_seen run) run.setup.base parts.log heard actors runs.running.log_ghost.log
  pub reads : HaveRead run.setup parts.words.words heard runs.running.log_ghost.log
  pub loaded : HaveLoaded parts.words.words actors
  pub count : length actors ≡ length (starts_about about)
  pub log_calls : CallsOn log_gives about.opened.value.log.dev about.opened.value.log.failed parts.log.dev parts.log.failed
  pub data_calls : CallsOn data_gives about.opened.value.store.dev about.opened.value.store.failed parts.store.dev parts.store.failed
  pub log_shape : parts.log.shape ≡ about.opened.value.log.shape
  -- what isn't held is at home
  pub slots : length s.homes ≡ SLOTS
  pub home : (k : ℕ) → HasTurn k → slice_index s.words (turn_word k) ≡ 0 → get_elem? s.homes k ≡ some (some
      (slot_content parts beside k))
  -- who gives the log part back after a failed call has a code that the part has, in a user's hand also
  pub told : (n : ℕ) (a : model.Actor) (code : ℕ) → get_elem? actors n ≡ some a → GivesFailed a code
      → (run_log_side log_seen data_seen run).Cause parts.log code
  -- a turn word that isn't 0 has an actor that holds it
  pub taken : (k : ℕ) → HasTurn k → slice_index s.words (turn_word k) ≢ 0 → IsSlotHeld actors k
  pub seat_of : ℕ → ℕ
  pub keeper : ℕ
  pub out : Bool
  pub data_home : out ≡ false → get_elem? s.homes DATA_SLOT ≡ some (some (slot.Data parts.store))
  pub knows : (id : ℕ) (v : View L D) → get_elem? s.views id ≡ some v → Knows about parts beside actors heard seat_of keeper out id v
