-- The readers' part of the invariant, kept by each turn.
use Rattle.std.proofs.Common.{Bool, List, [], ap, arith, cond, drop, false, length, refl, subst, sym, take, true, ℕ, ⊎_elim, ◌%◌, ◌++◌, ◌+◌, ◌-◌, ◌<◌, ◌∙◌, ◌∷◌, ◌≡◌, ◌≢◌, ◌≤◌, ◌⊎◌}
use Rattle.std.proofs.lemmas.Bool.{cases_lt}
use Rattle.std.specs.Prelude.{nat_le, slice_index}
use Rattle.model_base.specs.declared.limits.TheConstants.{BLOCK_SIZE}
use Rattle.model_core.proofs.Groups.{bound_snoc, stream_long, stream_snoc}
use Rattle.model_core.proofs.Lsns.{floor_grows, lsn_le, lsn_less, lsn_offset}
use Rattle.std.proofs.lemmas.Bool.Decides.{nat_tests}
use Rattle.model_core.specs.{Actor, archives, block_end, CheckpointerState, end_of, Entry, floor, Given, IsBound, lsn, next_block, read_to, ReaderState, SharedWords, stream, Tiles, LogSide, Setup}
use Rattle.model_core.specs.States as actor
use Rattle.model_core.specs.declared.steps.CheckpointerStep.{CheckpointerStep}
use Rattle.model_core.specs.declared.steps.CheckpointerStep.TheVariants as checkpointer_step
use Rattle.model_core.specs.declared.steps.ReaderStep.{ReaderStep}
use Rattle.model_core.specs.declared.steps.ReaderStep.TheVariants as reader_step
use Rattle.model_log.specs.{sn_of, block_view, data_of}
use Rattle.model_log.specs.declared.layout.TheConstants.{BLOCK_DATA}
use Rattle.model_logcore.specs.LogLaws.{CanRead, HasBlock}
use Rattle.model_running.proofs.Following.{AreTexts, bound_from, bound_upto, piece_grown}
use Rattle.model_running.proofs.Places.{sn_back}
use Rattle.model_running.specs.ReadHalf.{ArchiverAt, ArchiverHas, CandidateAt, CandidateFits, FollowerAt, FollowerHas, groups_upto, HasByKind, HasMore, HasPiece, IsFlushedTo, IsUnderPlaces, ReaderHas, ReadFits}

-- by kind: the archiver, or a follower
pub kind_map : (b : Bool) (c : Setup) (m m' : SharedWords) (log log' : List Entry) (r r' : ReaderState) → HasByKind c m log b r
    → (b ≡ true → ArchiverHas c m log r → ArchiverHas c m' log' r') → (b ≡ false → FollowerHas c m log r → FollowerHas c m' log' r') → HasByKind c m' log' b r'
kind_map true c m m' log log' r r' has one two = one refl has
kind_map false c m m' log log' r r' has one two = two refl has

-- WHAT A TURN LEAVES: the log may grow by a group, FLUSHED and the places don't go back.
pub record LogGrows (log log' : List Entry) (sn : ℕ) : Type 0 where
  pub how : ◌≡◌ {A = List Entry} log' log ⊎ ((e : Entry) × ◌≡◌ {A = List Entry} log' (log ++ e ∷ []) × (e.start ≡ sn) × (0 < length e.bytes))

module _ (c : Setup) (m m' : SharedWords) (log log' : List Entry) (sn : ℕ) (tiles : Tiles c.base log sn) (flushed : m.flushed ≤ m'.flushed) (grows : LogGrows log log' sn) where
  bound_later : (x : ℕ) → IsBound c.base log x → IsBound c.base log' x
  bound_later x is = ⊎_elim (λ same. subst (λ (l : List Entry). IsBound c.base l x) (sym same) is)
      (λ more. subst (λ (l : List Entry). IsBound c.base l x) (sym more.1) (bound_snoc log c.base x more.0 is)) grows.how

  upto_snoc : (l : List Entry) (x : ℕ) (e : Entry) → x < end_of e → ◌≡◌ {A = List Given} (groups_upto x (l ++ e ∷ [])) (groups_upto x l)
  upto_snoc [] x e low = let test : nat_le (end_of e) x ≡ false = grind (arith, nat_tests) in
      ap (λ b. cond b ((record { start = lsn e.start; end = lsn (end_of e); text = e.bytes }) ∷ []) []) test
  upto_snoc (y ∷ ys) x e low = ap (λ (l : List Given). cond (nat_le (end_of y) x) ((record { start = lsn y.start; end = lsn (end_of y); text = y.bytes }) ∷ l) l) (upto_snoc ys x e low)

  pub groups_later : (x : ℕ) → x ≤ sn → ◌≡◌ {A = List Given} (groups_upto x log') (groups_upto x log)
  groups_later x low = ⊎_elim (λ same. ap (groups_upto x) same)
      (λ more. ap (groups_upto x) more.1 ∙ upto_snoc log x more.0 (let a = more.2 in let b = more.3 in omega arith)) grows.how

  piece_later : (d k : ℕ) → c.base + d + k ≤ sn → take k (drop d (stream log')) ≡ take k (drop d (stream log))
  piece_later d k within =
      let long = stream_long log c.base sn tiles in
      ⊎_elim (λ same. ap (λ (l : List Entry). take k (drop d (stream l))) same)
      (λ more. ap (λ (l : List Entry). take k (drop d (stream l))) more.1 ∙ ap (λ (s : List ℕ). take k (drop d s)) (stream_snoc log more.0)
      ∙ piece_grown d k (stream log) more.0.bytes (omega arith)) grows.how

  flushed_later : (x : ℕ) → IsFlushedTo c m log x → IsFlushedTo c m' log' x
  flushed_later x is = record { bound = bound_later x is.bound; flushed = (let low = is.flushed in omega arith) }

  more_later : (r : ReaderState) → HasMore c m log r → HasMore c m' log' r
  more_later r h = record { to = h.to; mark = h.mark; flushed = flushed_later h.to h.flushed; more = h.more }

  piece_stays : (r : ReaderState) → IsBound c.base log r.at → HasMore c m log r → HasPiece c m log r → HasPiece c m' log' r
  piece_stays r at h is =
      let end : sn_of r.mark ≡ h.to = ap sn_of h.mark ∙ sn_back h.to in
      let top = bound_upto log c.base sn h.to tiles h.flushed.bound in
      let low = bound_from log c.base sn r.at tiles at in
      let more = h.more in
      is ∙ sym (piece_later (read_to r - c.base) (block_end r - read_to r) (omega arith))

  follower_at_later : (r : ReaderState) → IsBound c.base log r.at → (st : ReaderStep) → FollowerAt c m log r st → FollowerAt c m' log' r st
  follower_at_later r at reader_step.TakeDevice h = more_later r h
  follower_at_later r at reader_step.GiveBroken h = more_later r h
  follower_at_later r at reader_step.ReadBlock h = more_later r h
  follower_at_later r at reader_step.GiveDevice h = (more_later r h.0, piece_stays r at h.0 h.1)
  follower_at_later r at reader_step.LoadFlushed h = tt
  follower_at_later r at reader_step.StorePlace h = tt
  follower_at_later r at reader_step.StoreFailed h = tt
  follower_at_later r at reader_step.GiveFailed h = tt
  follower_at_later r at reader_step.Failed h = tt
  follower_at_later r at reader_step.Append h = tt
  follower_at_later r at reader_step.StoreLost h = tt

  follower_later : (r : ReaderState) → FollowerHas c m log r → FollowerHas c m' log' r
  follower_later r F =
      let low = bound_from log c.base sn r.at tiles F.bound in
      let top = bound_upto log c.base sn F.to tiles F.read.bound in
      let below = F.below in
      record {
        place = F.place;
        bound = bound_later r.at F.bound;
        kept = F.kept ∙ sym (piece_later (r.at - c.base) (length r.kept) (omega arith));
        no_more = F.no_more;
        to = F.to;
        read = flushed_later F.to F.read;
        below = F.below;
        stored = F.stored;
        own = F.own;
        own_bound = bound_later F.stored F.own_bound;
        step = follower_at_later r F.bound r.step F.step;
      }

  archiver_at_later : (r : ReaderState) (st : ReaderStep) → ArchiverAt c m log r st → ArchiverAt c m' log' r st
  archiver_at_later r reader_step.TakeDevice h = ((let a = h.0 in omega arith), h.1)
  archiver_at_later r reader_step.GiveBroken h = ((let a = h.0 in omega arith), h.1)
  archiver_at_later r reader_step.ReadBlock h = ((let a = h.0 in omega arith), h.1)
  archiver_at_later r reader_step.GiveDevice h = ((let a = h.0 in omega arith), h.1)
  archiver_at_later r reader_step.Append h = ((let a = h.0 in omega arith), h.1)
  archiver_at_later r reader_step.LoadFlushed h = tt
  archiver_at_later r reader_step.StorePlace h = tt
  archiver_at_later r reader_step.StoreFailed h = tt
  archiver_at_later r reader_step.GiveFailed h = tt
  archiver_at_later r reader_step.Failed h = tt
  archiver_at_later r reader_step.StoreLost h = tt

  archiver_later : (r : ReaderState) → ArchiverHas c m log r → ArchiverHas c m' log' r
  archiver_later r A = record { aligned = A.aligned; below = (let a = A.below in let b = floor_grows m.flushed m'.flushed flushed in omega arith); own_aligned = A.own_aligned; step = archiver_at_later r r.step A.step }

  -- a reader whose word is as it was, or is stored now
  pub reader_later : (seat : ℕ) (r : ReaderState) → ReaderHas c m log seat r → r.own ≡ slice_index m'.places r.number → ReaderHas c m' log' seat r
  reader_later seat r R word = record {
    alone = R.alone;
    first = R.first;
    last = R.last;
    word = word;
    up = R.up;
    has = kind_map (archives r) c m m' log log' r r R.has (λ _ A. archiver_later r A) (λ _ F. follower_later r F);
  }

  under_later : (x n : ℕ) → ((i : ℕ) → slice_index m.places i ≤ slice_index m'.places i) → IsUnderPlaces c m log x n → IsUnderPlaces c m' log' x n
  under_later x n up is i low high = let a = is i low high in let b = up i in omega arith

  candidate_at_later : (t : CheckpointerState) → ((i : ℕ) → slice_index m.places i ≤ slice_index m'.places i) → (st : CheckpointerStep) → CandidateAt c m log t st → CandidateAt c m' log' t st
  candidate_at_later t up checkpointer_step.LoadPlace h = (h.0, h.1, under_later t.to t.reader up h.2)
  candidate_at_later t up checkpointer_step.ReadList h = under_later t.to c.last_reader up h
  candidate_at_later t up checkpointer_step.GiveList h = under_later t.to c.last_reader up h
  candidate_at_later t up checkpointer_step.LoadFlushed h = under_later t.to c.last_reader up h
  candidate_at_later t up checkpointer_step.TakeDevice h = under_later t.to c.last_reader up h
  candidate_at_later t up checkpointer_step.GiveBroken h = under_later t.to c.last_reader up h
  candidate_at_later t up checkpointer_step.Checkpoint h = under_later t.to c.last_reader up h
  candidate_at_later t up checkpointer_step.LoadCtail h = tt
  candidate_at_later t up checkpointer_step.StoreCheckpoint h = tt
  candidate_at_later t up checkpointer_step.GiveDevice h = tt
  candidate_at_later t up checkpointer_step.StoreFailed h = tt
  candidate_at_later t up checkpointer_step.GiveFailed h = tt
  candidate_at_later t up checkpointer_step.Failed h = tt

  pub candidate_later : (t : CheckpointerState) → ((i : ℕ) → slice_index m.places i ≤ slice_index m'.places i) → CandidateFits c m log t → CandidateFits c m' log' t
  candidate_later t up h = record { first = h.first; last = h.last; step = candidate_at_later t up t.step h.step }

  -- the actors at other seats: the places of their readers are as before
  pub others_read : (seat : ℕ) → ((i : ℕ) → slice_index m.places i ≤ slice_index m'.places i) → ((i : ℕ) → c.reader_at i ≢ seat → slice_index m'.places i ≡ slice_index m.places i)
      → (j : ℕ) → j ≢ seat → (a : Actor) → ReadFits c m log j a → ReadFits c m' log' j a
  others_read seat up same j ne (actor.Checkpointer t) h = candidate_later t up h
  others_read seat up same j ne (actor.Reader r) h = reader_later j r h (h.word ∙ sym (same r.number (λ e. ne (h.alone ∙ e))))
  others_read seat up same j ne (actor.User u) h = tt
  others_read seat up same j ne (actor.Writer s) h = tt
  others_read seat up same j ne (actor.Flusher s) h = tt
  others_read seat up same j ne (actor.Closer s) h = tt
  others_read seat up same j ne (actor.Cleaner s) h = tt

-- A READER'S OWN STATE CHANGES, and of what it has of the log nothing does.
module _ (c : Setup) (m : SharedWords) (log : List Entry) (r : ReaderState) (mark : ℕ) (block : List ℕ) (texts : List (List ℕ)) (code : ℕ) (checks : Bool) (st : ReaderStep) where
  abbrev pub moved_reader : ReaderState
  moved_reader = record r { mark = mark; block = block; texts = texts; code = code; checks = checks; step = st }

  follower_goes : FollowerHas c m log r → FollowerAt c m log moved_reader st → FollowerHas c m log moved_reader
  follower_goes F at = record {
    place = F.place;
    bound = F.bound;
    kept = F.kept;
    no_more = F.no_more;
    to = F.to;
    read = F.read;
    below = F.below;
    stored = F.stored;
    own = F.own;
    own_bound = F.own_bound;
    step = at;
  }

  pub reader_goes : (seat : ℕ) → ReaderHas c m log seat r → (archives r ≡ true → ArchiverHas c m log r → ArchiverAt c m log moved_reader st) → (archives r ≡ false → FollowerHas c m log r → FollowerAt c m log moved_reader st)
      → ReaderHas c m log seat moved_reader
  reader_goes seat R one two = record {
    alone = R.alone;
    first = R.first;
    last = R.last;
    word = R.word;
    up = R.up;
    has = kind_map (archives r) c m m log log r moved_reader R.has
        (λ e A. record { aligned = A.aligned; below = A.below; own_aligned = A.own_aligned; step = one e A })
        (λ e F. follower_goes F (two e F));
  }

-- what a reader of either kind knows at its read
abbrev pub ReadsAt : Bool → Setup → SharedWords → List Entry → ReaderState → Type 0
ReadsAt true c m log r = ArchiverAt c m log r reader_step.ReadBlock
ReadsAt false c m log r = FollowerAt c m log r reader_step.ReadBlock

abbrev pub block_by : Bool → ReaderState → ℕ
block_by b r = cond b r.place (floor (lsn (read_to r)))

-- THE BLOCK THAT A READER NEEDS MAY BE READ, and a follower then has the stream's bytes.
module _ (D : LogSide) (c : Setup) (m : SharedWords) (log : List Entry) (sn : ℕ) (p : D.Part) (tiles : Tiles c.base log sn) (even : c.base % BLOCK_DATA ≡ 0) (stable : ℕ) (stable_is : D.stable p ≡ lsn stable) (flushed : m.flushed ≤ D.stable p)
    (low : D.ckpt p ≤ D.asked p) (texts : AreTexts log) (seat : ℕ) (r : ReaderState) (R : ReaderHas c m log seat r)
    (under : D.asked p ≤ slice_index m.places r.number) where
  pub can_read : r.step ≡ reader_step.ReadBlock → D.failed p ≡ false → CanRead D c.blocks c.base log (next_block r) p
  can_read is sound = record {
    sound = sound;
    even = aligned (archives r) R.has;
    base_even = even;
    end = sn;
    tiles = tiles;
    texts = texts;
    from = from (archives r) R.has;
    some = held (archives r) R.has (subst_step (archives r) R.has);
  }
    where
      aligned : (b : Bool) → HasByKind c m log b r → block_by b r % BLOCK_SIZE ≡ 0
      aligned true A = A.aligned
      aligned false F = omega arith

      from : (b : Bool) → HasByKind c m log b r → D.ckpt p < block_by b r + BLOCK_SIZE
      from true A = let a = R.up in let w = R.word in omega arith
      from false F = let a = R.up in let w = R.word in let pl = F.place in let z = lsn_le r.at (read_to r) (omega arith) in omega arith

      subst_step : (b : Bool) → HasByKind c m log b r → ReadsAt b c m log r
      subst_step true A = subst (ArchiverAt c m log r) is A.step
      subst_step false F = subst (FollowerAt c m log r) is F.step

      held : (b : Bool) → HasByKind c m log b r → ReadsAt b c m log r → block_by b r + 12 < D.stable p
      held true A at = let a = at.0 in let b = at.1 in omega arith
      held false F at = let more = lsn_less (read_to r) at.to at.more in let f = at.flushed.flushed in let o = lsn_offset (read_to r) in omega arith

  -- what the follower takes from the block is the stream's
  pub reads_piece : FollowerHas c m log r → HasMore c m log r → archives r ≡ false → HasBlock D c.blocks c.base log stable (next_block r) r.block → HasPiece c m log r
  reads_piece F h kind block =
      let y : ℕ = read_to r in
      let lowest = bound_from log c.base sn r.at tiles F.bound in
      let end : sn_of r.mark ≡ h.to = ap sn_of h.mark ∙ sn_back h.to in
      let top : h.to ≤ stable = ⊎_elim (λ less. absurd (let z = lsn_less stable h.to less in let f = h.flushed.flushed in omega arith)) (λ fine. fine) (cases_lt stable h.to) in
      let here : floor (lsn y) ≡ next_block r = sym (ap (λ b. cond b r.place (floor (lsn y))) kind) in
      let more = h.more in
      let in_use : List ℕ = data_of (block_view r.block) r.block in
      let taken : List ℕ = take (block_end r - y) (drop (y % BLOCK_DATA) in_use) in
      ap (λ b. cond b taken []) block.fits
      ∙ block.bytes_are y (block_end r - y) (omega arith) (omega arith) (omega arith) here
