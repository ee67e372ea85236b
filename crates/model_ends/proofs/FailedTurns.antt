-- What a turn comes to, for what users and words have left: no more; and once FAILED has a code, for an open user at its turn
-- less, or it is nearer to its check of FAILED.
use lib.ListN.{get_elem?}
use mathlib.Core.Option.{some}
use Rattle.std.proofs.Common.{List, ap, arith, inl, inr, refl, set, ℕ, ⊎_elim, ◌+◌, ◌<◌, ◌≡◌, ◌≤◌, ◌⊎◌}
use Rattle.std.specs.Prelude.{slice_index}
use Rattle.model_core.proofs.Later.{took_later}
use Rattle.model_core.specs.{Actor, filled, Filling, Listed, lists_left, next, shared_answer, shared_left, SharedWords, took, UserState, DataSide, LogSide, IsSameActor, Setup}
use Rattle.model_logcore.proofs.Frame.{total_set}
use Rattle.model_logcore.specs.{LogGhost, sum_over_actors}
use Rattle.model_pagecore.specs.{PageGhost}
use Rattle.model_running.specs.Watermarks.{BothHalves}
use Rattle.model_ends.proofs.Margin.{is_user}
use Rattle.model_ends.proofs.OtherNoMore.{others_no_more}
use Rattle.model_ends.proofs.Outcome.{IsOpenStep}
use Rattle.model_ends.proofs.PageCost.{words_steps}
use Rattle.model_ends.proofs.UserNoMore.{left_of, user_no_more}
use Rattle.model_ends.proofs.UserSettles.{leaving, user_settles}
use Rattle.model_core.specs.States as actor

-- what users and words have left
abbrev pub total : ℕ → SharedWords → (ℕ → List Listed) → List Actor → ℕ
total last m ls actors = sum_over_actors left_of actors + words_steps last m ls

no_left : (a b : Actor) → IsSameActor a b → is_user a ≡ 0 → left_of b ≡ 0
no_left (actor.User u) b is none = absurd (omega arith)
no_left _ b is none = ap left_of is.1

pub filled_left : (a : Actor) (f : Filling) → left_of (filled a f) ≡ left_of a
filled_left (actor.Reader r) f = refl
filled_left (actor.User r) f = refl
filled_left (actor.Writer r) f = refl
filled_left (actor.Flusher r) f = refl
filled_left (actor.Closer r) f = refl
filled_left (actor.Cleaner r) f = refl
filled_left (actor.Checkpointer r) f = refl

module _ (D : LogSide) (E : DataSide) (c : Setup) (m : SharedWords) (g : LogGhost) (h : PageGhost) (ls : ℕ → List Listed) (p : D.Part) (d : E.Part) (actors : List Actor) (both : BothHalves D E c m g h ls p d actors) (last seat : ℕ) (code mark : ℕ) where
  abbrev pub to : Actor → SharedWords
  to a = shared_left m (next a)

  abbrev pub lists_of : Actor → ℕ → List Listed
  lists_of a = lists_left ls (λ i. slice_index m.lists i) (next a)

  abbrev pub becomes : Actor → Actor
  becomes a = took a (shared_answer ls (D.failed p) code mark m (next a))

  others : (a : Actor) → get_elem? actors seat ≡ some a → is_user a ≡ 0 → left_of (becomes a) + words_steps last (to a) (lists_of a) ≤ left_of a + words_steps last m ls
  others a at none = let words = others_no_more D E c m g h ls p d actors both last seat a at none in let zero = no_left a (becomes a) (took_later a (shared_answer ls (D.failed p) code mark m (next a))) none in omega arith

  one_no_more : (a : Actor) → get_elem? actors seat ≡ some a → left_of (becomes a) + words_steps last (to a) (lists_of a) ≤ left_of a + words_steps last m ls
  one_no_more (actor.User u) at = user_no_more D E c m g h ls p d actors both last seat u (D.failed p) code mark at
  one_no_more (actor.Writer s) at = others (actor.Writer s) at refl
  one_no_more (actor.Flusher s) at = others (actor.Flusher s) at refl
  one_no_more (actor.Reader s) at = others (actor.Reader s) at refl
  one_no_more (actor.Closer s) at = others (actor.Closer s) at refl
  one_no_more (actor.Cleaner s) at = others (actor.Cleaner s) at refl
  one_no_more (actor.Checkpointer s) at = others (actor.Checkpointer s) at refl

  -- NO TURN MAKES MORE
  pub turn_no_more : (a : Actor) → get_elem? actors seat ≡ some a → total last (to a) (lists_of a) (set actors seat (becomes a)) ≤ total last m ls actors
  turn_no_more a at = let t = total_set left_of actors seat a (becomes a) at in let le = one_no_more a at in omega arith

  -- of an open user's own turn, once FAILED has a code
  abbrev pub Moves : UserState → Actor → Type 0
  Moves u a = (total last (to a) (lists_of a) (set actors seat (becomes a)) < total last m ls actors) ⊎ ((w : UserState) × (becomes a ≡ actor.User w) × IsOpenStep w.step × (leaving w < leaving u))

  pub user_moves : (u : UserState) → get_elem? actors seat ≡ some (actor.User u) → 0 < m.failed → IsOpenStep u.step → Moves u (actor.User u)
  user_moves u at failed live = ⊎_elim
      (λ less. inl (let t = total_set left_of actors seat (actor.User u) (becomes (actor.User u)) at in omega arith))
      (λ waits. inr waits.1)
      (user_settles D E c m g h ls p d actors both last seat u (D.failed p) code mark at failed live)
