-- The actors that a run leaves are put into their seats from the last one on, and then turned round.
use Rattle.std.proofs.Common.{List, [], ap, append_assoc, append-nil, arith, length, map, refl, reverse, sym, ℕ, ◌++◌, ◌∙◌, drop, take, ◌∷◌, ◌≡◌}
use Rattle.std.proofs.Math.Seq.{take-append_seam}
use Rattle.std.proofs.lemmas.List.{length-map, length-reverse, map-append, reverse-append, reverse-reverse}
use Rattle.model_core.specs.{FlusherState, WriterState}
use Rattle.model_own.specs.{LogWork, OwnUser}
use Rattle.redo_drive.specs.declared.actor.Actor.{Actor}
use Rattle.redo_drive.specs.declared.actor.Actor.TheVariants as own
use Rattle.redo_ownmachine.specs.OwnCrew.{crew, users_alone}

pub no_users : (R : Type 0) (users : List OwnUser) → length users ≡ 0
    → length (map {B = Actor R} (λ (o : OwnUser). own.User o.user) users) ≡ 0
no_users R users none = length-map users (λ (o : OwnUser). own.User o.user) ∙ none

module _ {R : Type 0} where
  -- one more
  pub put_one : (room front all whole : List (Actor R)) (a : Actor R) → all ≡ front ++ a ∷ []
      → room ++ reverse all ≡ whole → (room ++ a ∷ []) ++ reverse front ≡ whole
  put_one room front all whole a is so =
      append_assoc room (a ∷ []) (reverse front)
      ∙ ap (λ (l : List (Actor R)). room ++ l) (sym (reverse-append front (a ∷ [])))
      ∙ ap (λ (l : List (Actor R)). room ++ reverse l) (sym is) ∙ so

  pub user_last : (front all : List OwnUser) (o : OwnUser) → all ≡ front ++ o ∷ []
      → ◌≡◌ {A = List (Actor R)} (users_alone all) (users_alone front ++ own.User o.user ∷ [])
  user_last front all o is = ap (λ (l : List OwnUser). map (λ x. own.User x.user) l) is
      ∙ map-append (λ (x : OwnUser). own.User x.user) front (o ∷ [])

  pub turned : (users : List OwnUser) (k : LogWork) (others : List (Actor R)) → ◌≡◌ {A = List (Actor R)}
      (reverse (((reverse others ++ own.Flusher k.flusher ∷ []) ++ own.Writer k.writer ∷ []) ++ reverse (users_alone users)))
      (crew users k others)
  turned users k others =
      reverse-append ((reverse others ++ own.Flusher k.flusher ∷ []) ++ own.Writer k.writer ∷ [])
      (reverse (users_alone users))
      ∙ ap (λ (l : List (Actor R)). l ++ reverse ((reverse others ++ own.Flusher k.flusher ∷ [])
      ++ own.Writer k.writer ∷ [])) (reverse-reverse (users_alone users))
      ∙ ap (λ (l : List (Actor R)). users_alone users ++ l)
      (reverse-append (reverse others ++ own.Flusher k.flusher ∷ []) (own.Writer k.writer ∷ [])
      ∙ ap (λ (l : List (Actor R)). own.Writer k.writer ∷ l) (reverse-append (reverse others) (own.Flusher k.flusher ∷ []))
      ∙ ap (λ (l : List (Actor R)). own.Writer k.writer ∷ own.Flusher k.flusher ∷ l) (reverse-reverse others))

  -- none is left to be put
  none_left : (rest : List (Actor R)) → length rest ≡ 0 → ◌≡◌ {A = List (Actor R)} rest []
  none_left [] none = refl
  none_left (a ∷ rest) none = absurd (omega arith)

  pub put_all : (room rest whole : List (Actor R)) → length rest ≡ 0 → room ++ reverse rest ≡ whole → room ≡ whole
  put_all room rest whole none so = sym (append-nil room)
      ∙ sym (ap (λ (l : List (Actor R)). room ++ reverse l) (none_left rest none)) ∙ so

  pub turned_round : (room out : List (Actor R)) (len : ℕ) (users : List OwnUser) (k : LogWork) (others : List (Actor R))
      (w : WriterState) (f : FlusherState) → out ≡ reverse room → len ≡ length room
      → room ≡ ((reverse others ++ own.Flusher f ∷ []) ++ own.Writer w ∷ []) ++ reverse (users_alone users)
      → w ≡ k.writer → f ≡ k.flusher
      → ◌≡◌ {A = List (Actor R)} (take len (out ++ drop (length out) room)) (crew users k others)
  turned_round room out len users k others w f out_is long is w_is f_is =
      let same : len ≡ length out = long ∙ sym (length-reverse room) ∙ ap length (sym out_is) in
      ap (λ (n : ℕ). take n (out ++ drop (length out) room)) same
      ∙ take-append_seam out (drop (length out) room) ∙ out_is ∙ ap (λ (l : List (Actor R)). reverse l) is
      ∙ turned users (record { writer = w; flusher = f }) others
      ∙ ap (λ (x : WriterState). crew users (record { writer = x; flusher = f }) others) w_is
      ∙ ap (λ (x : FlusherState). crew users (record { writer = k.writer; flusher = x }) others) f_is
