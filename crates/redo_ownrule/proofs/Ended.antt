-- What the rule says at the end, once all seats are taken in: what the run has come to, its players and the log's work.
use Rattle.std.proofs.Common.{Bool, List, None, Option, Some, [], ap, arith, false, is_some, length, map, refl, subst, suc, sym, true, zero, ℕ, ◌+◌, ◌<◌, ◌∙◌, ◌∷◌, ◌≡◌}
use Rattle.std.specs.Prelude.{slice_index}
use lib.ListN.{get_elem?}
use mathlib.Core.Option as maybe
use native.Mathlib.Decide.{ℕ_discrete}
use Rattle.atomic_table.specs.Table.{Final, Seen as SeenBy}
use Rattle.model_core.specs.{CleanerState, hand, LogSide}
use Rattle.model_core.specs.States as model
use Rattle.model_own.specs.{LogWork}
use Rattle.model_running.proofs.Seated.{has_cleaner}
use Rattle.redo_disk.specs.{Call, Seen}
use Rattle.redo_drive.specs.{listing_at, run_log_side, RunOf, RunsWith, view_of, views_of}
use Rattle.redo_drive.specs.declared.actor.Actor.{Actor}
use Rattle.redo_drive.specs.declared.parts.Parts.{Parts}
use Rattle.redo_ownrule.proofs.Matched.{all_views, AreMatched, at_rest, hold_nothing, own_match, seated_there, SitsHere}
use Rattle.redo_ownrule.proofs.Placed.{alone}
use Rattle.redo_ownrule.specs.OwnPlays.{errand_of}
use Rattle.redo_ownrule.specs.Players.{actor_of, crew, numbered_as, place, place_behind, seated, workers}
use Rattle.redo_ownrule.specs.Sharing.{AllAtRest}
use Rattle.redo_ownrule.specs.declared.player.Player.{Player}
use Rattle.redo_ownrule.specs.declared.player.Player.TheVariants as player
use Rattle.redo_rule.specs.Cutting.{HoldNothing}
use Rattle.redo_rule.specs.Ending.{HaveLists, RunReaches}
use Rattle.redo_rule.specs.Handing.{HaveHandedOn, HaveLoaded, HaveRead}
use Rattle.redo_rule.specs.OwnSide.{desk_with, HasItsWork, OwnSide, SitsAs, work_of}
use Rattle.redo_rule.specs.Ruled.{Knows, Ruled, starts_about}
use Rattle.redo_rule.specs.Seating.{HasPart, IsCleaner}
use Rattle.redo_rule.specs.declared.law.About.{About}
use Rattle.redo_rule.specs.declared.law.Errand.{Errand}
use Rattle.redo_rule.specs.declared.law.Heard.{Heard}
use Rattle.redo_rule.specs.declared.law.Numbered.{Numbered}
use Rattle.redo_rule.specs.declared.law.Slot.{Slot}
use Rattle.redo_rule.specs.declared.law.Slot.TheVariants as slot
use Rattle.redo_rule.specs.declared.law.View.{View}

-- who cleans is neither the writer nor the flusher
found_cleaner : {R : Type 0} (work : Option LogWork) (ps : List (Player R)) (n : ℕ) (v : CleanerState)
    → get_elem? (views_of (crew work ps)) n ≡ maybe.some (model.Cleaner v)
    → (i : ℕ) × (get_elem? (views_of (map actor_of ps)) i ≡ maybe.some (model.Cleaner v))
found_cleaner None ps n v at = (n, ap (λ (l : List (Actor _)). get_elem? (views_of l) n) (alone ps) ∙ at)
found_cleaner (Some k) [] zero v at =
    absurd (let e = maybe.some-injective (model.Writer k.writer) (model.Cleaner v) at in cc)
found_cleaner (Some k) [] (suc zero) v at =
    absurd (let e = maybe.some-injective (model.Flusher k.flusher) (model.Cleaner v) at in cc)
found_cleaner (Some k) [] (suc (suc n)) v at = absurd (maybe.some-ne-none (model.Cleaner v) (sym at))
found_cleaner (Some k) (player.Plain a ∷ ps) zero v at =
    absurd (let e = maybe.some-injective (model.Writer k.writer) (model.Cleaner v) at in cc)
found_cleaner (Some k) (player.Plain a ∷ ps) (suc zero) v at =
    absurd (let e = maybe.some-injective (model.Flusher k.flusher) (model.Cleaner v) at in cc)
found_cleaner (Some k) (player.Plain a ∷ ps) (suc (suc n)) v at = (n, at)
found_cleaner (Some k) (player.Own o ∷ ps) zero v at =
    absurd (let e = maybe.some-injective (model.User o.user) (model.Cleaner v) at in cc)
found_cleaner (Some k) (player.Own o ∷ ps) (suc n) v at =
    let r = found_cleaner (Some k) ps n v at in (suc r.0, r.1)

either_way : (b : Bool) (P : Type 0) → (b ≡ true → P) → (b ≡ false → P) → P
either_way true P one other = one refl
either_way false P one other = other refl

-- what a run runs on, and what each has handed on
record GoesOn {L D : Type 0} (log_seen : L → Seen) (data_seen : D → Seen) (archive : Bool) (run : RunOf L D) (parts : Parts L D)
    (heard : ℕ → Heard) (actors : List model.Actor) : Type 0 where
  pub runs : RunsWith log_seen data_seen run archive parts actors
  pub hears : HaveHandedOn (run_log_side log_seen data_seen run) run.setup.base parts.log heard actors
      runs.running.log_ghost.log
  pub reads : HaveRead run.setup parts.words.words heard runs.running.log_ghost.log
  pub loaded : HaveLoaded parts.words.words actors

-- these are the actors of the players with the log's work, and at rest
record AreActors {R : Type 0} (own : Option OwnSide) (actors : List model.Actor) (ps : List (Player R)) : Type 0 where
  pub are : ◌≡◌ {A = List model.Actor} actors (views_of (crew (work_of own) ps))
  pub rest : HoldNothing (views_of (crew (work_of own) ps))

-- the errand that a player is on
abbrev its_errand : {R : Type 0} → Player R → Option Errand
its_errand (player.Plain a) = None
its_errand (player.Own o) = Some (errand_of o)

-- what a seat of a table knows of a player, which has this place among them
record IsKnown {R : Type 0} (own : Option OwnSide) (actors : List model.Actor) (all_heard heard : ℕ → Heard)
    (n i : ℕ) (p : Player R) : Type 0 where
  pub there : get_elem? actors n ≡ maybe.some (view_of (actor_of p))
  pub heard_is : ◌≡◌ {A = Heard} (all_heard n) (heard i)
  pub sits : SitsAs own (its_errand p) n

works_is : (own : Option OwnSide) → is_some (work_of own) ≡ is_some own
works_is None = refl
works_is (Some side) = refl

sits_here : {R : Type 0} (side : OwnSide) (n : ℕ) (p : Player R)
    → SitsAs (Some side) (its_errand p) n → SitsHere side.users n p
sits_here side n (player.Plain a) sits = sits
sits_here side n (player.Own o) sits = sits

are_actors : {R : Type 0} (D : LogSide) (part : D.Part) (own : Bool) (side : Option OwnSide) (actors : List model.Actor)
    (all_heard heard : ℕ → Heard) (ps : List (Player R)) → own ≡ is_some side → HasItsWork D part side actors
    → length actors ≡ length ps + workers own
    → ((i : ℕ) (p : Player R) → get_elem? ps i ≡ maybe.some p
    → IsKnown side actors all_heard heard (place own ps i) i p)
    → AllAtRest ps → AreActors side actors ps
are_actors {R} D part true None actors all_heard heard ps is W count known rest = absurd (cc)
are_actors {R} D part false (Some side) actors all_heard heard ps is W count known rest = absurd (cc)
are_actors {R} D part false None actors all_heard heard ps is W count known rest =
    let same = ap (λ (l : List (Actor R)). views_of l) (alone ps) in record {
      are = all_views actors ps (omega arith) (λ i p at. (known i p at).there) ∙ same;
      rest = subst HoldNothing same (hold_nothing ps rest);
    }
are_actors {R} D part true (Some side) actors all_heard heard ps is W count known rest =
    let M : AreMatched side.users side.work W.others ps = record {
      count = ap (λ (l : List model.Actor). length l) (sym W.are) ∙ count;
      there = λ i p at. ap (λ (l : List model.Actor). get_elem? l (place_behind ps i)) (sym W.are)
          ∙ (known i p at).there;
      sits = λ i p at. sits_here side (place_behind ps i) p (known i p at).sits;
    } in record {
      are = W.are ∙ own_match side.users side.work W.others ps M;
      rest = at_rest D part side.users side.work W.others ps M W.errands rest;
    }

-- The run came to these players, with this work of the log and with what each has handed on.
pub record EndsAs {L D R : Type 0} (log_seen : L → Seen) (log_gives : L → Call → L → Type 0) (data_seen : D → Seen)
    (data_gives : D → Call → D → Type 0) (about : About L D) (own : Bool) (heard : ℕ → Heard)
    (ps : List (Player R)) (ws : List ℕ) (xs : List (Slot L D)) : Type 0 where
  pub all_heard : ℕ → Heard
  pub work : Option LogWork
  pub works : is_some work ≡ own
  pub reaches : RunReaches log_seen log_gives data_seen data_gives about all_heard (views_of (crew work ps)) ws xs
  pub lists : HaveLists xs
  pub work_is : ◌≡◌ {A = Option LogWork} (work_of reaches.beside.own) work
  pub rest : HoldNothing (views_of (crew work ps))
  pub heard_is : (i : ℕ) (p : Player R) → get_elem? ps i ≡ maybe.some p
      → ◌≡◌ {A = Heard} (all_heard (place own ps i)) (heard i)

module _ {L D R : Type 0} (log_seen : L → Seen) (log_gives : L → Call → L → Type 0) (data_seen : D → Seen)
    (data_gives : D → Call → D → Type 0) (about : About L D) (own : Bool) (own_is : about.own_writes ≡ own)
    (heard : ℕ → Heard) (ps : List (Player R)) (id : ℕ) (v : View L D) (ws : List ℕ) (xs : List (Slot L D))
    (final : Final (SeenBy (Ruled log_seen log_gives data_seen data_gives about) id v) ws xs)
    (all : v.seats ≡ seated (place own ps) heard 0 ps) (count : length ps + workers own ≡ length (starts_about about))
    (rest : AllAtRest ps)
    (cleaner : (i : ℕ) (a : model.Actor) → get_elem? (views_of (map actor_of ps)) i ≡ maybe.some a → IsCleaner a
    → HasPart v)
    (alone_part : about.plan.log_only ≡ true → HasPart v) where
  abbrev Q : Ruled log_seen log_gives data_seen data_gives about final.0
  Q = final.1.0

  K : Knows about Q.parts Q.beside Q.actors Q.heard Q.seat_of Q.keeper Q.out id v
  K = Q.knows id v final.1.1

  abbrev whom : ℕ → Player R → Numbered
  whom i p = numbered_as (place own ps i) (heard i) p

  seat_at : (i : ℕ) (p : Player R) → get_elem? ps i ≡ maybe.some p → get_elem? v.seats i ≡ maybe.some (whom i p)
  seat_at i p at = ap (λ (l : List Numbered). get_elem? l i) all ∙ seated_there (place own ps) heard 0 ps i p at
      ∙ ap (λ (n : ℕ). maybe.some (numbered_as (place own ps n) (heard n) p)) (let z : 0 + i ≡ i = omega arith in z)

  known : (i : ℕ) (p : Player R) → get_elem? ps i ≡ maybe.some p
      → IsKnown Q.beside.own Q.actors Q.heard heard (place own ps i) i p
  known i (player.Plain a) at =
      let x = whom i (player.Plain a) in
      let m = K.mine i x (seat_at i (player.Plain a) at) in
      record { there = m.1; heard_is = m.2; sits = K.errand i x (seat_at i (player.Plain a) at) }
  known i (player.Own o) at =
      let x = whom i (player.Own o) in
      let m = K.mine i x (seat_at i (player.Own o) at) in
      record { there = m.1; heard_is = m.2; sits = K.errand i x (seat_at i (player.Own o) at) }

  its_actors : AreActors Q.beside.own Q.actors ps
  its_actors = are_actors (run_log_side log_seen data_seen Q.run) Q.parts.log own Q.beside.own Q.actors Q.heard heard ps
      (sym own_is ∙ Q.own_is) Q.own (Q.count ∙ sym count) known rest

  pub ends_as : EndsAs log_seen log_gives data_seen data_gives about own heard ps ws xs
  ends_as =
      let s = final.0 in
      let A = its_actors in
      let now = subst (GoesOn log_seen data_seen about.plan.archive Q.run Q.parts Q.heard) A.are
      (record { runs = Q.runs; hears = Q.hears; reads = Q.reads; loaded = Q.loaded }) in
      let free : (k : ℕ) → k < 5 → slice_index s.words (7 + k) ≡ 0 = λ k l.
      elim (ℕ_discrete (slice_index s.words (7 + k)) 0) [
        | yes z ↦ z
        | no busy ↦ (let t = Q.taken k l busy in
            let none : hand t.1 ≡ None = (A.rest t.0 t.1
            (ap (λ (z : List model.Actor). get_elem? z t.0) (sym A.are) ∙ t.2)).no_slot in
            let some_hand = t.3 in absurd (cc))
      ] in
      let part : HasPart v = either_way about.plan.log_only (HasPart v) alone_part (λ pages.
      let c = has_cleaner Q.run.setup (views_of (crew (work_of Q.beside.own) ps)) now.runs.seated
      (Q.is_about.is_run.log_only_is ∙ pages) in
      let f = found_cleaner (work_of Q.beside.own) ps c.0 c.1 c.2 in
      cleaner f.0 (model.Cleaner c.1) f.1 tt) in
      record {
        all_heard = Q.heard;
        work = work_of Q.beside.own;
        works = works_is Q.beside.own ∙ sym Q.own_is ∙ own_is;
        reaches = record {
          run = Q.run;
          is_about = Q.is_about;
          parts = Q.parts;
          runs = now.runs;
          hears = now.hears;
          reads = now.reads;
          loaded = now.loaded;
          words_are = Q.words_are ∙ final.2;
          beside = Q.beside;
          log = final.4 0 (slot.Log (desk_with Q.parts.log Q.beside)) (Q.home 0 (omega arith) (free 0 (omega arith)));
          data_part = final.4 5 (slot.Data Q.parts.store)
              (Q.data_home (K.data_part (record { part = part.0; out = false }) part.1).2);
          log_calls = Q.log_calls;
          data_calls = Q.data_calls;
          log_shape = Q.log_shape;
        };
        lists = λ i l. (
          listing_at Q.parts.lists.lists i,
          final.4 (suc i) (slot.Pages (listing_at Q.parts.lists.lists i))
              (Q.home (suc i) (omega arith) (free (suc i) (omega arith))),
        );
        work_is = refl;
        rest = A.rest;
        heard_is = λ i p at. (known i p at).heard_is;
      }
