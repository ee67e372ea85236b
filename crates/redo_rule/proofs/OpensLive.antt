-- The rule holds of a table that is told of a live run.
use Rattle.std.proofs.Common.{Bool, List, None, Option, Some, [], ap, arith, cond, false, is_some, length, refl, subst, suc, sym, true, zero, ℕ, ◌*◌, ◌+◌, ◌<◌, ◌∙◌, ◌∷◌, ◌≡◌, ◌≤◌}
use lib.ListN.{get_elem?}
use mathlib.Core.Option as maybe
use Rattle.std.proofs.lemmas.Option.{same_Some}
use Rattle.atomic_table.specs.Table.{opening}
use Rattle.model_base.specs.declared.limits.TheConstants.{LSN_LIMIT}
use Rattle.model_core.specs.States as model
use Rattle.model_core.specs.{Given, Line, lsn}
use Rattle.model_logcore.specs.{lengths}
use Rattle.redo_disk.specs.{Call, Seen}
use Rattle.redo_drive.specs.Begins.{BeginsLive, BeginsOn}
use Rattle.redo_drive.specs.{AreLists, RunOf, views_of}
use Rattle.redo_drive.specs.LiveActors.{live_actors, live_plan}
use Rattle.redo_drive.specs.declared.making.Beginning.{Beginning}
use Rattle.redo_drive.specs.declared.plan.Plan.{Plan}
use Rattle.redo_rule.proofs.Opens.{AllStand, IsToldOf, opens_any, slots_of, Stands, starts_so}
use Rattle.redo_rule.specs.Handing.{nothing}
use Rattle.redo_rule.specs.Lively.{HasRoom}
use Rattle.redo_rule.specs.OwnSide.{Beside, HasNoWork, SitsAs}
use Rattle.redo_rule.specs.Ruled.{first_view, none_heard, numbered, own_numbered, Ruled, starts_about, starts_with}
use Rattle.redo_rule.specs.declared.law.About.{About}
use Rattle.redo_rule.specs.declared.law.Errand.{Errand}
use Rattle.redo_rule.specs.declared.law.Live.{Live}
use Rattle.redo_rule.specs.declared.law.Numbered.{Numbered}
use Rattle.redo_rule.specs.declared.law.Slot.{Slot}

-- an actor of no errand, in the first seat with all others, stands there
numbered_stand : (before actors : List model.Actor) (k i : ℕ) (x : Numbered)
    → ((j : ℕ) (a : model.Actor) → get_elem? actors j ≡ maybe.some a → get_elem? before (k + j) ≡ maybe.some a)
    → get_elem? (numbered none_heard k actors) i ≡ maybe.some x → Stands None before x
numbered_stand before [] k i x there at = absurd (maybe.some-ne-none x (sym at))
numbered_stand before (a ∷ actors) k zero x there at =
    subst (Stands None before) (maybe.some-injective _ x at) (record {
      here = ap (get_elem? before) (let e : k ≡ k + 0 = omega arith in e) ∙ there 0 a refl;
      silent = refl;
      sits = tt;
      idle = tt;
    })
numbered_stand before (a ∷ actors) k (suc i) x there at =
    numbered_stand before actors (k + 1) i x
    (λ j b it. ap (get_elem? before) (let e : k + 1 + j ≡ k + suc j = omega arith in e) ∙ there (suc j) b it) at

no_bytes : (lines : List Line) (quota : ℕ) → length lines ≡ 0 → lengths lines ≤ quota
no_bytes [] quota none = omega arith
no_bytes (line ∷ lines) quota none = absurd (omega arith)

module _ {L D R : Type 0} (log_seen : L → Seen) (log_gives : L → Call → L → Type 0) (data_seen : D → Seen) (data_gives
    : D → Call → D → Type 0) (stands : R → List Given → Type 0) (about : About L D) (live : Live)
    (alive : about.live ≡ Some live) (no_lines : about.script.value ≡ []) (plain : about.own_writes ≡ false)
    (kept : about.plan ≡ live_plan about.plan.log_only) (start : Beginning L D R)
    (B : BeginsLive log_seen data_seen stands about.opened.value live.users about.plan.log_only start)
    (short : lsn (B.run.setup.base + length (starts_about about) * live.quota) < LSN_LIMIT) where
  abbrev firsts : List model.Actor
  firsts = live_actors about.opened.value.shape live.users about.opened.value.start (live_plan about.plan.log_only)

  abbrev BeginsSo : Plan → Type 0
  BeginsSo plan = BeginsOn log_seen data_seen stands about.opened.value [] true plan [] firsts start

  -- it begins by the plan that the table is told
  abbrev IsSo : Plan → Type 0
  IsSo plan = (S : BeginsSo plan) × (S.run ≡ B.run)

  pub so : IsSo about.plan
  so = subst IsSo (sym kept) (B, refl)

  pub told_live : IsToldOf log_seen data_seen stands about [] true [] firsts start so.0
  told_live = record {
    script_is = sym no_lines;
    live_is = ap (λ (o : Option Live). is_some o) alive;
    firsts_are = ap (live_actors about.opened.value.shape live.users about.opened.value.start) (sym kept)
        ∙ ap (starts_with about) (sym alive);
    room = λ other is.
        subst (λ (l : Live). HasRoom l about.opened.value.shape [] (length (starts_about about)) so.0.run.setup)
        (let e : Some live ≡ Some other = sym alive ∙ is in same_Some live other e) room_now;
  }
    where
      room_now : HasRoom live about.opened.value.shape [] (length (starts_about about)) so.0.run.setup
      room_now = record {
        lines = tt;
        fits = tt;
        within = λ user. no_bytes (so.0.run.setup.script user) live.quota (so.0.is_run.of_script.count user);
        short = subst (λ (r : RunOf L D). lsn (r.setup.base + length (starts_about about) * live.quota) < LSN_LIMIT)
            (sym so.1) short;
      }

  -- all actors are in the first seat
  pub all_stand : AllStand None (views_of start.actors.items) (first_view about).seats
  all_stand i x at = numbered_stand actors actors 0 i x
      (λ j a it. ap (get_elem? actors) (let e : 0 + j ≡ j = omega arith in e) ∙ it)
      (ap (λ (l : List Numbered). get_elem? l i) (sym seats) ∙ at)
    where
      actors : List model.Actor
      actors = views_of start.actors.items

      seats : ◌≡◌ {A = List Numbered} (first_view about).seats (numbered none_heard 0 actors)
      seats = ap (λ (b : Bool). cond b (own_numbered 0 (starts_about about))
          (numbered none_heard 0 (starts_about about))) plain
          ∙ ap (numbered none_heard 0)
          (sym (starts_so log_seen data_seen stands about [] true [] firsts start so.0 told_live))

  -- THE RULE HOLDS as a live run begins.
  pub opens_live : AreLists start.parts.lists → (block : List ℕ) (ws : List ℕ) (xs : List (Slot L D))
      → ws ≡ start.parts.words.words
      → ◌≡◌ {A = List (Slot L D)} xs (slots_of start.parts (record { block = block; own = None }))
      → Ruled log_seen log_gives data_seen data_gives about (opening ws xs (first_view about))
  opens_live lists_are block ws xs words slots =
      opens_any log_seen log_gives data_seen data_gives stands about [] true [] firsts start so.0 told_live lists_are
      (record { block = block; own = None }) plain tt all_stand ws xs words slots
