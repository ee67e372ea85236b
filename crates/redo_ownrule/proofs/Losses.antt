-- The archiver is a player, and not the writer or the flusher.
use Rattle.std.proofs.Common.{Bool, List, None, Option, Some, [], ap, false, map, suc, sym, true, zero, ℕ, ◌∙◌, ◌∷◌, ◌≡◌}
use lib.ListN.{get_elem?}
use mathlib.Core.Option as maybe
use Rattle.model_core.specs.{ReaderState}
use Rattle.model_core.specs.States as model
use Rattle.model_own.specs.{LogWork}
use Rattle.redo_disk.specs.declared.error.DevError.{DevError}
use Rattle.redo_drive.specs.{views_of}
use Rattle.redo_drive.specs.declared.actor.Actor.{Actor}
use Rattle.redo_ownrule.proofs.Placed.{alone}
use Rattle.redo_ownrule.specs.Players.{actor_of, crew}
use Rattle.redo_ownrule.specs.declared.player.Player.{Player}
use Rattle.redo_ownrule.specs.declared.player.Player.TheVariants as player
use Rattle.redo_rule.specs.Closing.{TellsLoss}

found_reader : {R : Type 0} (work : Option LogWork) (ps : List (Player R)) (n : ℕ) (r : ReaderState)
    → get_elem? (views_of (crew work ps)) n ≡ maybe.some (model.Reader r)
    → (i : ℕ) × (get_elem? (views_of (map actor_of ps)) i ≡ maybe.some (model.Reader r))
found_reader None ps n r at = (n, ap (λ (l : List (Actor _)). get_elem? (views_of l) n) (alone ps) ∙ at)
found_reader (Some k) [] zero r at =
    absurd (let e = maybe.some-injective (model.Writer k.writer) (model.Reader r) at in cc)
found_reader (Some k) [] (suc zero) r at =
    absurd (let e = maybe.some-injective (model.Flusher k.flusher) (model.Reader r) at in cc)
found_reader (Some k) [] (suc (suc n)) r at = absurd (maybe.some-ne-none (model.Reader r) (sym at))
found_reader (Some k) (player.Plain a ∷ ps) zero r at =
    absurd (let e = maybe.some-injective (model.Writer k.writer) (model.Reader r) at in cc)
found_reader (Some k) (player.Plain a ∷ ps) (suc zero) r at =
    absurd (let e = maybe.some-injective (model.Flusher k.flusher) (model.Reader r) at in cc)
found_reader (Some k) (player.Plain a ∷ ps) (suc (suc n)) r at = (n, at)
found_reader (Some k) (player.Own o ∷ ps) zero r at =
    absurd (let e = maybe.some-injective (model.User o.user) (model.Reader r) at in cc)
found_reader (Some k) (player.Own o ∷ ps) (suc n) r at =
    let f = found_reader (Some k) ps n r at in (suc f.0, f.1)

pub its_losses : {R : Type 0} (archive : Bool) (work : Option LogWork) (ps : List (Player R)) (actors : List (Actor R))
    → ◌≡◌ {A = List (Actor R)} actors (crew work ps) → (lost : Option DevError)
    → TellsLoss archive (views_of (map actor_of ps)) lost → TellsLoss archive (views_of actors) lost
its_losses {R} true work ps actors are lost told = λ seat r at kind.
    let f = found_reader work ps seat r (ap (λ (l : List (Actor R)). get_elem? (views_of l) seat) (sym are) ∙ at) in
    told f.0 r f.1 kind
its_losses false work ps actors are lost told = told
