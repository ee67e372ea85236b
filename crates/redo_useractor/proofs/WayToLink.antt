-- On the way from a reservation to its link each Op that doesn't wait brings a user one Op nearer, but where the link lacks
-- room.
use Rattle.std.proofs.Common.{Bool, ap, arith, cond, eq-eqb, false, length, min, nat_lt, ne_eqb, refl, subst, sym, true, ℕ, ⊎_elim, ◌+◌, ◌-◌, ◌/◌, ◌<◌, ◌==◌, ◌∙◌, ◌≡◌, ◌≢◌, ◌≤◌}
use Rattle.std.proofs.lemmas.Bool.{cases_eq}
use Rattle.model_core.specs.ActorProgram.{opposite}
use Rattle.model_core.specs.{advance_next, advance_took, can_link, changes, checked, copy_place, frees, group_bytes, group_end, has_room, heard, left_in_word, loaded_tail, mode, next_count, old_of, own_took, stays_put, step_of, tail_of, took, user_took, user_waits, UserState, with_link_room, without_link_room, Actor}
use Rattle.model_core.specs.States as actor
use Rattle.model_core.specs.Program.{ending}
use Rattle.model_core.specs.declared.ops.Answer.{Answer}
use Rattle.model_core.specs.declared.ops.Step.TheVariants as step
use Rattle.model_core.specs.declared.steps.UserStep.{UserStep}
use Rattle.model_core.specs.declared.steps.AdvanceStep.TheVariants as advance_step
use Rattle.model_core.specs.declared.steps.UserStep.TheVariants as user_step
use Rattle.model_log.specs.declared.layout.TheConstants.{BLOCK_DATA}
use Rattle.redo_useractor.proofs.WordsSpanned.{last_word, one_word_less}
use Rattle.redo_useractor.specs.UserView.{IsAt, user_view}
use Rattle.redo_useractor.specs.declared.actor.UserActor.TheInside.{Inside}
use Rattle.redo_useractor.specs.ToLink.{first_stores, lacks_room, lacks_room_at, to_link, to_link_at, words_spanned, words_to_copy}

-- the state once the next bytes are copied
abbrev copied_to : UserState → UserStep → UserState
copied_to u s = record u { copied = u.copied + next_count u; step = s }

-- in the middle of the bytes, and at their end
further : (u : UserState) → u.copied + next_count u < length (group_bytes u) → words_to_copy u ≡ words_to_copy (copied_to u user_step.AddCell) + 1
further u more =
    one_word_less (copy_place u) (next_count u) (length (group_bytes u) - u.copied) (all (left_in_word (copy_place u)) (length (group_bytes u)) u.copied more) (few (next_count u) (length (group_bytes u)) u.copied more)
    ∙ ap (λ (k : ℕ). k + 1) (same u.start u.copied (next_count u) (length (group_bytes u)))
  where
    all : (left long copied : ℕ) → copied + min left (long - copied) < long → min left (long - copied) ≡ left
    all left long copied h = omega arith

    few : (n long copied : ℕ) → copied + n < long → n < long - copied
    few n long copied h = omega arith

    same : (start copied n long : ℕ) → words_spanned (start + copied + n) (long - copied - n - 1) ≡ words_spanned (start + (copied + n)) (long - (copied + n) - 1)
    same start copied n long = ap (λ (x : ℕ). words_spanned x (long - copied - n - 1)) (let e : start + copied + n ≡ start + (copied + n) = omega arith in e)
        ∙ ap (words_spanned (start + (copied + n))) (let e : long - copied - n - 1 ≡ long - (copied + n) - 1 = omega arith in e)

at_end : (u : UserState) → u.copied < length (group_bytes u) → u.copied + next_count u ≡ length (group_bytes u) → words_to_copy u ≡ 1
at_end u some all = last_word (copy_place u) (length (group_bytes u) - u.copied) (left_over (length (group_bytes u)) u.copied some) (few (left_in_word (copy_place u)) (length (group_bytes u)) u.copied all)
  where
    left_over : (long copied : ℕ) → copied < long → 0 < long - copied
    left_over long copied h = omega arith

    few : (left long copied : ℕ) → copied + min left (long - copied) ≡ long → long - copied ≤ left
    few left long copied h = omega arith

-- bytes are copied
copies : (u : UserState) → u.copied < length (group_bytes u) → words_to_copy u + first_stores u + 2 ≡ to_link (user_took u 0 user_step.AddCell) + 1
copies u some = ⊎_elim
    (λ all. subst (λ (b : Bool). words_to_copy u + first_stores u + 2 ≡ to_link (copied_to u (cond b (cond crosses user_step.StoreFirst user_step.LoadWtail) user_step.AddCell)) + 1)
    (sym (eq-eqb (u.copied + next_count u) (length (group_bytes u)) all)) (ended crosses (words_to_copy u) (at_end u some all)))
    (λ more. subst (λ (b : Bool). words_to_copy u + first_stores u + 2 ≡ to_link (copied_to u (cond b (cond crosses user_step.StoreFirst user_step.LoadWtail) user_step.AddCell)) + 1)
    (sym (ne_eqb (u.copied + next_count u) (length (group_bytes u)) more)) (nearer (words_to_copy u) (words_to_copy (copied_to u user_step.AddCell)) (first_stores u) (further u (below (left_in_word (copy_place u)) (length (group_bytes u)) u.copied some more))))
    (cases_eq (u.copied + next_count u) (length (group_bytes u)))
  where
    crosses : Bool
    crosses = nat_lt (u.start / BLOCK_DATA) (group_end u / BLOCK_DATA)

    ended : (b : Bool) (w : ℕ) → w ≡ 1 → w + cond b 1 0 + 2 ≡ to_link (copied_to u (cond b user_step.StoreFirst user_step.LoadWtail)) + 1
    ended true w is = omega arith
    ended false w is = omega arith

    nearer : (w v f : ℕ) → w ≡ v + 1 → w + f + 2 ≡ v + f + 2 + 1
    nearer w v f is = omega arith

    below : (left long copied : ℕ) → copied < long → copied + min left (long - copied) ≢ long → copied + min left (long - copied) < long
    below left long copied h ne = omega arith

-- an Op of the way, by the step
abbrev pub HasLeft : UserState → UserStep → Type 0
HasLeft u user_step.AddCell = u.copied < length (group_bytes u)
HasLeft u _ = Unit {0}

-- bytes are left as long as it copies
pub has_left : (u : Inside) (s : UserStep) → IsAt u s → HasLeft (user_view u) s
has_left u user_step.AddCell at = at.2
has_left u _ at = tt

-- by how many Ops it is nearer in this state
abbrev gained : UserState → ℕ
gained w = cond (lacks_room w) 0 1

copies_gain : (u : UserState) → u.copied < length (group_bytes u) → words_to_copy u + first_stores u + 2 ≡ to_link (user_took u 0 user_step.AddCell) + gained (user_took u 0 user_step.AddCell)
copies_gain u some = copies u some ∙ ap (λ (b : Bool). to_link (user_took u 0 user_step.AddCell) + cond b 0 1)
    (sym (by (u.copied + next_count u == length (group_bytes u)) (nat_lt (u.start / BLOCK_DATA) (group_end u / BLOCK_DATA))))
  where
    by : (a b : Bool) → lacks_room_at (cond a (cond b user_step.StoreFirst user_step.LoadWtail) user_step.AddCell) ≡ false
    by true true = refl
    by true false = refl
    by false b = refl

nearer_at : (u : UserState) (n : ℕ) (s : UserStep) → HasLeft u s → 0 < to_link_at u s → user_waits u n s ≡ false → to_link_at u s ≡ to_link (user_took u n s) + gained (user_took u n s)
nearer_at u n user_step.LoadWrite left some goes = by (has_room u n) goes
  where
    by : (b : Bool) → cond b false true ≡ false → words_to_copy u + first_stores u + 3 ≡ to_link (cond b (record u { loaded = record u.loaded { write = n }; step = user_step.AddCell }) (record u { loaded = record u.loaded { write = n }; checks = true; step = user_step.LoadWrite }))
        + gained (cond b (record u { loaded = record u.loaded { write = n }; step = user_step.AddCell }) (record u { loaded = record u.loaded { write = n }; checks = true; step = user_step.LoadWrite }))
    by true h = omega arith
    by false h = cc
nearer_at u n user_step.AddCell left some goes = copies_gain u left
nearer_at u n user_step.StoreFirst left some goes = refl
nearer_at u n user_step.LoadWtail left some goes = by (can_link u (tail_of n))
  where
    lacks : UserState
    lacks = without_link_room u n false (user_step.AdvanceWritten advance_step.LoadTail)

    by : (b : Bool) → 2 ≡ to_link (cond b (with_link_room u n) lacks) + gained (cond b (with_link_room u n) lacks)
    by true = refl
    by false = refl
nearer_at u n (user_step.AdvanceWritten s) left some goes = by (stays_put u.advance n s) (frees s) goes
  where
    on : Bool → Bool → UserState
    on b f = record u { loaded = record u.loaded { wtail = loaded_tail u.loaded.wtail n s }; advance = advance_took u.advance n s; checks = b; step = cond b user_step.LoadWtail (cond f user_step.ReloadWtail (user_step.AdvanceWritten (advance_next u.advance n s))) }

    by : (b f : Bool) → b ≡ false → 2 ≡ to_link (on b f) + gained (on b f)
    by true f h = cc
    by false true h = refl
    by false false h = refl
nearer_at u n user_step.ReloadWtail left some goes = by (can_link u (tail_of n)) goes
  where
    lacks : UserState
    lacks = without_link_room u n true user_step.LoadWtail

    by : (b : Bool) → opposite b ≡ false → 2 ≡ to_link (cond b (with_link_room u n) lacks) + gained (cond b (with_link_room u n) lacks)
    by true h = refl
    by false h = cc
nearer_at u n user_step.StoreLink left some goes = by (length (changes u) == 0) (mode u == 0) (u.k + 1 == length u.lines)
  where
    after : Bool → Bool → Bool → UserState
    after a b c = cond a (cond b (record u { k = u.k + 1; checks = cond c false true; step = cond c user_step.Done user_step.LoadCheckpoint }) (record u { step = user_step.AwaitMark })) (record u { step = user_step.LoadCtail })

    by : (a b c : Bool) → 1 ≡ to_link (after a b c) + gained (after a b c)
    by true true true = refl
    by true true false = refl
    by true false c = refl
    by false b c = refl
nearer_at u n _ left some goes = absurd (omega arith)

module _ (u v : UserState) (a : Answer) (is : ◌≡◌ {A = Actor} (actor.User v) (took (actor.User u) a)) (unchecked : u.checks ≡ false) where
  state : ◌≡◌ {A = UserState} v (user_took u (heard a) u.step)
  state = let e : ◌≡◌ {A = Actor} (actor.User v) (actor.User (user_took u (heard a) u.step)) =
      is ∙ ap (λ (b : Bool). cond b (checked (actor.User u) (old_of a)) (own_took (actor.User u) a)) unchecked in cc

  goes_on : step_of (actor.User u) a ≢ step.Idle → user_waits u (heard a) u.step ≡ false
  goes_on moves = by (user_waits u (heard a) u.step) (λ e. moves (ap (λ (b : Bool). cond b (cond (old_of a == 0) step.Moved (step.Failed (old_of a))) (cond (user_waits u (heard a) u.step) step.Idle (ending (own_took (actor.User u) a)))) unchecked
      ∙ ap (λ (b : Bool). cond b step.Idle (ending (own_took (actor.User u) a))) e))
    where
      by : (b : Bool) → (b ≡ true → ⊥) → b ≡ false
      by true h = absurd (h refl)
      by false h = refl

  pub comes_nearer : HasLeft u u.step → 0 < to_link u → step_of (actor.User u) a ≢ step.Idle → to_link u ≡ to_link v + gained v
  comes_nearer left some moves = nearer_at u (heard a) u.step left some (goes_on moves) ∙ ap (λ (w : UserState). to_link w + gained w) (sym state)
