-- An actor's own state changes, and the turn word of DEVICE may, with nothing else that the invariant speaks of.
use Rattle.std.proofs.Common.{List, ap, arith, false, inl, inr, refl, set, subst, sym, true, ℕ, ⊎_elim, ◌∙◌, ◌≡◌, ◌≢◌, ◌≤◌}
use lib.ListN.{get_elem?}
use mathlib.Core.Option.{some, some-injective}
use native.Mathlib.Decide.{ℕ_discrete}
use Rattle.model_core.proofs.Lists.{at_set, set_at, set_else}
use Rattle.model_core.specs.{Actor, ChecksWithoutTail, entries, Entry, HasHolder, HasLost, holds, holds_tail, Listed, ReaderState, SharedWords, UserState, DataSide, LogSide, Setup}
use Rattle.model_core.specs.declared.steps.ReaderStep.{ReaderStep}
use Rattle.model_core.specs.declared.steps.ReaderStep.TheVariants as reader_step
use Rattle.model_core.specs.declared.words.LinkBuffer.{LinkBuffer}
use Rattle.model_core.specs.declared.words.LinkBuffer.TheVariants as link_buffer
use Rattle.model_core.specs.States as actor
use Rattle.model_logcore.proofs.DeviceSteps.{gives, stays, takes}
use Rattle.model_logcore.proofs.Frame.{Kept}
use Rattle.model_logcore.specs.LogFacts.{LogGhost}
use Rattle.model_logcore.specs.LogFits.{LogFits}
use Rattle.model_logcore.specs.{left_to_reserve}
use Rattle.model_pagecore.specs.PageHalf.{PageHalf}
use Rattle.model_pagecore.specs.{HasLatch, PageFits, PageGhost}
use Rattle.model_running.proofs.Archiving.{IsNoReader}
use Rattle.model_running.proofs.PageTurn.{away}
use Rattle.model_running.proofs.ReadKeeps.{others_read}
use Rattle.model_running.specs.Watermarks.{LatchesAreHeld, BothHalves, UserClosed, UsersClosed}
use Rattle.model_running.specs.ReadHalf.{ArchiverAt, HaveRunBlocks, ReadFits, ReadHalf, StaysInRun}

pub holder_same : (b : LinkBuffer) (actors : List Actor) (seat : ℕ) (a x : Actor) → get_elem? actors seat ≡ some a
    → holds_tail b x ≡ holds_tail b a → HasHolder b actors → HasHolder b (set actors seat x)
holder_same b actors seat a x at same h = elim (ℕ_discrete h.0 seat) [
  | yes e ↦ (seat, x, set_at actors seat a x at, same ∙ ap (holds_tail b) (it e) ∙ h.3)
  | no n ↦ (h.0, h.1, set_else actors seat h.0 x n ∙ h.2, h.3)
]
  where
    it : h.0 ≡ seat → ◌≡◌ {A = Actor} a h.1
    it e = some-injective a h.1 (sym at ∙ subst (λ (i : ℕ). get_elem? actors i ≡ some h.1) e h.2)

module _ (D : LogSide) (E : DataSide) (c : Setup) (m : SharedWords) (g : LogGhost) (h : PageGhost)
    (ls : ℕ → List Listed) (p : D.Part) (d : E.Part) (actors : List Actor)
    (both : BothHalves D E c m g h ls p d actors) (seat : ℕ) (a b : Actor)
    (at : get_elem? actors seat ≡ some a) where
  -- what of an actor the rest of the invariant speaks of
  pub record IsAlike (device : ℕ) : Type 0 where
    pub fits : LogFits D c m g p seat b
    pub entries_same : ◌≡◌ {A = List Entry} (entries b) (entries a)
    pub left : left_to_reserve b ≤ left_to_reserve a
    pub tails : (l : LinkBuffer) → holds_tail l b ≡ holds_tail l a
    pub free : ChecksWithoutTail b
    pub pages : PageFits E c (record m { device = device }) g.log h ls d seat b
    pub latches : (k : ℕ) → HasLatch a k → HasLatch b k
    pub closed : (v : UserState) → ◌≡◌ {A = Actor} b (actor.User v) → UserClosed g.log h.closed v
    pub in_run : StaysInRun c b
    -- no reader of the log is restated
    pub other : IsNoReader a × IsNoReader b
    pub reads : ReadFits c (record m { device = device }) g.log seat b

  abbrev with_device : ℕ → SharedWords
  with_device device = record m { device = device }

  abbrev now : List Actor
  now = set actors seat b

  -- what is said of this seat and of the others is said of each
  everywhere : (F : ℕ → Actor → Type 0) → F seat b
      → ((j : ℕ) (x : Actor) → j ≢ seat → get_elem? actors j ≡ some x → F j x)
      → (j : ℕ) (x : Actor) → get_elem? now j ≡ some x → F j x
  everywhere F here before j x e = ⊎_elim
      (λ t. subst (λ (z : ℕ × Actor). F z.0 z.1) (λ i. (sym t.0 i, t.1 i)) here)
      (λ t. before j x t.0 t.1)
      (at_set actors seat j b x e)

  -- the readers have what they had
  same_reads : (device : ℕ) → ReadFits c (with_device device) g.log seat b → ReadHalf D c m g.log p actors
      → ReadHalf D c (with_device device) g.log p now
  same_reads device mine half = record {
    asked = half.asked;
    each = everywhere (ReadFits c (with_device device) g.log) mine
        (λ j x ne e. others_read c m (with_device device) g.log g.log m.sn both.logged.global.tiled.tiles
        (omega arith) (record { how = inl refl }) seat (λ i. omega arith) (λ i n. refl) j ne x (half.each j x e));
  }

  whole : (device : ℕ) → IsAlike device → (g' : LogGhost) → ◌≡◌ {A = List Entry} g'.log g.log
      → Kept D c (with_device device) g' p now → BothHalves D E c (with_device device) g' h ls p d now
  whole device alike g' log kept = record {
    script = both.script;
    cause = λ failed. ⊎_elim (λ z. inl z) (⊎_elim (λ z. inr (inl z)) (λ l. inr (inr (still_lost l)))) (both.cause failed);
    archiver = λ j r e kind. let A = both.archiver j r (reader_there j r e) kind in record {
      aligned = A.aligned;
      below = A.below;
      own_aligned = A.own_aligned;
      step = still_at r r.step A.step;
    };
    blocks = λ told. subst (λ (l : List Entry). HaveRunBlocks D c l now) (sym log)
        (λ j r e kind. both.blocks told j r (reader_there j r e) kind);
    logged =
        kept (λ w. holder_same link_buffer.Written actors seat a b at (alike.tails link_buffer.Written)
        (both.logged.advanced w))
        (everywhere (λ j x. ChecksWithoutTail x) alike.free (λ j x n e. both.logged.without_tail j x e));
    asked = both.asked;
    stays = both.stays;
    latches = latched;
    closed = subst (λ (l : List Entry). UsersClosed l h.closed now) (sym log)
        (λ j v e. ⊎_elim (λ t. alike.closed v t.1) (λ t. both.closed j v t.1)
        (at_set actors seat j b (actor.User v) e));
    advanced = λ w. holder_same link_buffer.Closed actors seat a b at (alike.tails link_buffer.Closed)
        (both.advanced w);
    in_run = everywhere (λ j x. StaysInRun c x) alike.in_run (λ j x n e. both.in_run j x e);
    reading = λ told. subst (λ (l : List Entry). ReadHalf D c (with_device device) l p now) (sym log)
        (same_reads device alike.reads (both.reading told));
    paged = subst (λ (l : List Entry). PageHalf E c (with_device device) l (D.stable p) h ls d now) (sym log)
        (away both seat (with_device device) b alike.pages refl refl refl refl refl refl refl);
  }
    where
      -- the readers are those that there were
      reader_there : (j : ℕ) (r : ReaderState) → get_elem? now j ≡ some (actor.Reader r)
          → get_elem? actors j ≡ some (actor.Reader r)
      reader_there j r e = ⊎_elim (λ t. absurd (subst IsNoReader t.1 alike.other.1)) (λ t. t.1)
          (at_set actors seat j b (actor.Reader r) e)

      still_lost : HasLost actors m.failed → HasLost now m.failed
      still_lost l = elim (ℕ_discrete l.seat seat) [
        | yes e ↦ absurd (subst IsNoReader (some-injective a (actor.Reader l.archiver)
            (sym at ∙ ap (get_elem? actors) (sym e) ∙ l.at)) alike.other.0)
        | no n ↦ record {
          seat = l.seat;
          archiver = l.archiver;
          at = set_else actors seat l.seat b n ∙ l.at;
          lost = l.lost;
          some_code = l.some_code;
        }
      ]

      still_at : (r : ReaderState) (st : ReaderStep) → ArchiverAt c m g.log r st
          → ArchiverAt c (with_device device) g'.log r st
      still_at r reader_step.TakeDevice k = k
      still_at r reader_step.GiveBroken k = k
      still_at r reader_step.ReadBlock k = k
      still_at r reader_step.GiveDevice k = k
      still_at r reader_step.Append k = k
      still_at r _ k = tt

      latched : LatchesAreHeld c.pages m h.holder now
      latched k l held = let t = both.latches k l held in elim (ℕ_discrete (h.holder k) seat) [
        | yes e ↦ (b, there e, alike.latches k (subst (λ (x : Actor). HasLatch x k) (it t.0 t.1 e) t.2))
        | no n ↦ (t.0, set_else actors seat (h.holder k) b n ∙ t.1, t.2)
      ]
        where
          there : h.holder k ≡ seat → get_elem? now (h.holder k) ≡ some b
          there e = subst (λ (i : ℕ). get_elem? now i ≡ some b) (sym e) (set_at actors seat a b at)

          it : (x : Actor) → get_elem? actors (h.holder k) ≡ some x → h.holder k ≡ seat → ◌≡◌ {A = Actor} x a
          it x is e = some-injective x a (sym is ∙ subst (λ (i : ℕ). get_elem? actors i ≡ some a) (sym e) at)

  -- it holds what it held
  pub restated : IsAlike m.device → holds b ≡ holds a → BothHalves D E c m g h ls p d now
  restated alike keep = whole m.device alike g refl
      (stays D c m g p actors seat a both.logged at b keep alike.fits alike.entries_same alike.left)

  -- it takes the log part, which is free; it gives it back
  pub taken_by : IsAlike 1 → m.device ≡ 0 → holds b ≡ true
      → (g' : LogGhost) × BothHalves D E c (with_device 1) g' h ls p d now
  taken_by alike free hold =
      let k = takes D c m g p actors seat a both.logged at b free hold alike.fits alike.entries_same
      alike.left in
      (k.0, whole 1 alike k.0 k.2 k.1)

  pub given_by : IsAlike 0 → holds a ≡ true → holds b ≡ false
      → (g' : LogGhost) × BothHalves D E c (with_device 0) g' h ls p d now
  given_by alike had free =
      let k = gives D c m g p actors seat a both.logged at b had free alike.fits alike.entries_same
      alike.left in
      (k.0, whole 0 alike k.0 k.2 k.1)
