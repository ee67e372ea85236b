-- What a turn puts into an actor changes neither what it asks for nor what it holds. Where it gives something back, all that a
-- turn may put into it is one.
use Rattle.std.proofs.Common.{Bool, List, Option, Some, [], ap, append_assoc, arith, cond, false, length, length-append, refl, subst, sym, take, true, ℕ, ⊎_elim, ◌++◌, ◌∙◌, ◌∷◌, ◌≡◌}
use Rattle.std.proofs.lemmas.List.{take_at}
use Rattle.model_core.proofs.FailedCalls.{HasStored}
use Rattle.model_core.proofs.Hands.{handles, Handles}
use Rattle.model_core.specs.States as model
use Rattle.model_core.specs.{GivesFailed, hand, IsFreeToCheck, reader_hand, StoresFailed, archives, AreInFront, filled, Filling, Fills, Given, holds_tail, is_checking, IsText, joined_texts, lent, next, pending, reader_op, ReaderState, took}
use Rattle.model_core.specs.Program.{ending, waits}
use Rattle.model_core.specs.ReaderProgram.{reader_filled, reader_fills, reader_waits}
use Rattle.model_core.specs.declared.ops.Answer.{Answer}
use Rattle.model_core.specs.declared.ops.Op.{Op}
use Rattle.model_core.specs.declared.ops.Op.TheVariants as op
use Rattle.model_core.specs.declared.steps.ReaderStep.{ReaderStep}
use Rattle.model_core.specs.declared.steps.ReaderStep.TheVariants as reader_step
use Rattle.model_core.specs.declared.words.Word.TheVariants as word
use Rattle.model_running.proofs.Filling.{next_filled}
use Rattle.model_running.proofs.Following.{one_text}
use Rattle.model_running.specs.ReadHalf.{handed_at}
use Rattle.redo_drive.proofs.Filled.{IsNoRead, reader_or_no_read}
use Rattle.redo_drive.specs.{filling_of, handed_by}
use Rattle.redo_rule.specs.Plays.{block_filling, KeepsTexts}

-- what depends neither on a reader's block nor on the groups in front
same_filled : {A : Type 0} (P : model.Actor → A)
    → ((r : ReaderState) (block : List ℕ) → P (model.Reader (record r { block = block })) ≡ P (model.Reader r))
    → ((r : ReaderState) (texts : List (List ℕ)) → P (model.Reader (record r { texts = texts })) ≡ P (model.Reader r))
    → (a : model.Actor) (f : Filling) → P (filled a f) ≡ P a
same_filled {A} P block texts (model.Reader r) f = by r.step
  where
    by : (st : ReaderStep) → ◌≡◌ {A = A} (P (model.Reader (reader_filled r f st))) (P (model.Reader r))
    by reader_step.ReadBlock = block r f.block
    by reader_step.GiveDevice = texts r f.texts
    by _ = refl
same_filled P block texts (model.User u) f = refl
same_filled P block texts (model.Writer s) f = refl
same_filled P block texts (model.Flusher s) f = refl
same_filled P block texts (model.Closer s) f = refl
same_filled P block texts (model.Cleaner s) f = refl
same_filled P block texts (model.Checkpointer s) f = refl

pub hand_filled : (a : model.Actor) (f : Filling) → hand (filled a f) ≡ hand a
hand_filled = same_filled hand (λ r b. refl) (λ r t. refl)

pub checks_filled : (a : model.Actor) (f : Filling) → is_checking (filled a f) ≡ is_checking a
checks_filled = same_filled is_checking (λ r b. refl) (λ r t. refl)

pub ending_filled : (a : model.Actor) (f : Filling) → ending (filled a f) ≡ ending a
ending_filled = same_filled ending (λ r b. refl) (λ r t. refl)

waits_by : (r : ReaderState) (block : List ℕ) (texts : List (List ℕ)) (y : Answer) (st : ReaderStep)
    → reader_waits (record r { block = block; texts = texts }) y st ≡ reader_waits r y st
waits_by r block texts y reader_step.LoadFlushed = refl
waits_by r block texts y reader_step.TakeDevice = refl
waits_by r block texts y _ = refl

pub waits_filled : (a : model.Actor) (f : Filling) (y : Answer) → waits (filled a f) y ≡ waits a y
waits_filled a f y =
    same_filled (λ z. waits z y) (λ r b. waits_by r b r.texts y r.step) (λ r t. waits_by r r.block t y r.step) a f

pub free_filled : (a : model.Actor) (f : Filling) → IsFreeToCheck a → IsFreeToCheck (filled a f)
free_filled a f free checks = let n = free (sym (checks_filled a f) ∙ checks) in record {
  no_slot = hand_filled a f ∙ n.no_slot;
  no_tail = λ b. same_filled (holds_tail b) (λ r x. refl) (λ r t. refl) a f ∙ n.no_tail b;
}

-- what its Op does with what it holds
pub handles_filled : (a : model.Actor) (f : Filling) → IsFreeToCheck a
    → Handles (next a) (hand a) (λ r. hand (took (filled a f) r))
handles_filled a f free =
    let then : Answer → Option ℕ = λ r. hand (took (filled a f) r) in
    subst (λ (o : Op). Handles o (hand a) then) (next_filled a f)
    (subst (λ (h : Option ℕ). Handles (next (filled a f)) h then) (hand_filled a f)
    (handles (filled a f) (free_filled a f free)))

pub gives_filled : (a : model.Actor) (f : Filling) (code : ℕ) → GivesFailed (filled a f) code → GivesFailed a code
gives_filled (model.Reader r) f code g = by r.step g
  where
    by : (st : ReaderStep) → GivesFailed (model.Reader (reader_filled r f st)) code → GivesFailed (model.Reader r) code
    by reader_step.ReadBlock g = g
    by reader_step.GiveDevice g = g
    by _ g = g
gives_filled (model.User u) f code g = g
gives_filled (model.Writer s) f code g = g
gives_filled (model.Flusher s) f code g = g
gives_filled (model.Closer s) f code g = g
gives_filled (model.Cleaner s) f code g = g
gives_filled (model.Checkpointer s) f code g = g

pub stored_before : (a : model.Actor) (f : Filling) (code : ℕ) → HasStored (filled a f) code → HasStored a code
stored_before (model.Reader r) f code g = by r.step g
  where
    by : (st : ReaderStep) → HasStored (model.Reader (reader_filled r f st)) code → HasStored (model.Reader r) code
    by reader_step.ReadBlock g = g
    by reader_step.GiveDevice g = g
    by _ g = g
stored_before (model.User u) f code g = g
stored_before (model.Writer s) f code g = g
stored_before (model.Flusher s) f code g = g
stored_before (model.Closer s) f code g = g
stored_before (model.Cleaner s) f code g = g
stored_before (model.Checkpointer s) f code g = g

pub stores_filled : (a : model.Actor) (f : Filling) (code : ℕ) → StoresFailed (filled a f) code → StoresFailed a code
stores_filled (model.Cleaner s) f code g = g
stores_filled (model.Reader r) f code g = by r.step g
  where
    by : (st : ReaderStep) → StoresFailed (model.Reader (reader_filled r f st)) code → StoresFailed (model.Reader r) code
    by reader_step.ReadBlock g = g
    by reader_step.GiveDevice g = g
    by _ g = g
stores_filled (model.User u) f code g = g
stores_filled (model.Writer s) f code g = g
stores_filled (model.Flusher s) f code g = g
stores_filled (model.Closer s) f code g = g
stores_filled (model.Checkpointer s) f code g = g

-- AN OP INTO WHOSE ACTOR A TURN PUTS NOTHING
abbrev pub IsPlainOp : Op → Type 0
IsPlainOp (op.ReadBlock x) = ⊥
IsPlainOp op.GiveDevice = ⊥
IsPlainOp _ = Unit {0}

-- what a reader asks for where it checks for no failure
asks_own : (r : ReaderState) (st : ReaderStep) → r.step ≡ st → reader_hand st ≡ Some 0 → IsFreeToCheck (model.Reader r)
    → ◌≡◌ {A = Op} (next (model.Reader r)) (reader_op r st)
asks_own r st is holds free = by r.checks refl
  where
    by : (b : Bool) → r.checks ≡ b → ◌≡◌ {A = Op} (next (model.Reader r)) (reader_op r st)
    by true c = let none = (free c).no_slot in let some = ap reader_hand is ∙ holds in absurd (cc)
    by false c = ap (λ (b : Bool). cond b (op.Load word.Failed) (reader_op r r.step)) c ∙ ap (reader_op r) is

pub plain_filled : (a : model.Actor) (f : Filling) → IsFreeToCheck a → IsPlainOp (next a)
    → ◌≡◌ {A = model.Actor} (filled a f) a
plain_filled (model.Reader r) f free plain = by r.step refl
  where
    by : (st : ReaderStep) → r.step ≡ st → ◌≡◌ {A = model.Actor} (model.Reader (reader_filled r f st)) (model.Reader r)
    by reader_step.ReadBlock is = absurd (subst IsPlainOp (asks_own r reader_step.ReadBlock is refl free) plain)
    by reader_step.GiveDevice is = absurd (subst IsPlainOp (asks_own r reader_step.GiveDevice is refl free) plain)
    by _ is = refl
plain_filled (model.User u) f free plain = refl
plain_filled (model.Writer s) f free plain = refl
plain_filled (model.Flusher s) f free plain = refl
plain_filled (model.Closer s) f free plain = refl
plain_filled (model.Cleaner s) f free plain = refl
plain_filled (model.Checkpointer s) f free plain = refl

-- nor does it hand anything on
pub plain_hands : (a : model.Actor) → IsFreeToCheck a → IsPlainOp (next a) → ◌≡◌ {A = List Given} (handed_by a) []
plain_hands (model.Reader r) free plain = by (archives r) r.checks r.step refl
  where
    by : (b c : Bool) (st : ReaderStep) → r.step ≡ st → ◌≡◌ {A = List Given} (cond b [] (cond c [] (handed_at r st))) []
    by true c st is = refl
    by false true st is = refl
    by false false reader_step.GiveDevice is =
        absurd (subst IsPlainOp (asks_own r reader_step.GiveDevice is refl free) plain)
    by false false _ is = refl
plain_hands (model.User u) free plain = refl
plain_hands (model.Writer s) free plain = refl
plain_hands (model.Flusher s) free plain = refl
plain_hands (model.Closer s) free plain = refl
plain_hands (model.Cleaner s) free plain = refl
plain_hands (model.Checkpointer s) free plain = refl

-- a reader that reads has the block, whatever a turn puts into it then
read_step : (r : ReaderState) (x : ℕ) (st : ReaderStep) → reader_op r st ≡ op.ReadBlock x → st ≡ reader_step.ReadBlock
read_step r x reader_step.ReadBlock is = refl
read_step r x reader_step.LoadFlushed is = absurd (cc)
read_step r x reader_step.TakeDevice is = absurd (cc)
read_step r x reader_step.GiveBroken is = absurd (cc)
read_step r x reader_step.GiveDevice is = absurd (cc)
read_step r x reader_step.StorePlace is = absurd (cc)
read_step r x reader_step.StoreFailed is = absurd (cc)
read_step r x reader_step.GiveFailed is = absurd (cc)
read_step r x reader_step.Failed is = absurd (cc)
read_step r x reader_step.Append is = absurd (cc)
read_step r x reader_step.StoreLost is = absurd (cc)

asks_read : (r : ReaderState) (x : ℕ) (b : Bool) → cond b (op.Load word.Failed) (reader_op r r.step) ≡ op.ReadBlock x
    → r.step ≡ reader_step.ReadBlock
asks_read r x true is = absurd (cc)
asks_read r x false is = read_step r x r.step is

pub read_filled : (r : ReaderState) (bytes : List ℕ) (texts : List (List ℕ)) (x : ℕ) → next (model.Reader r) ≡
    op.ReadBlock x
    → let w : ReaderState = record r { block = bytes } in
    ◌≡◌ {A = model.Actor} (filled (model.Reader w) (filling_of (model.Reader w) texts))
    (filled (model.Reader r) (block_filling bytes))
read_filled r bytes texts x is =
    let w : ReaderState = record r { block = bytes } in
    let at = asks_read r x r.checks is in
    ap (λ (st : ReaderStep). model.Reader (reader_filled w (filling_of (model.Reader w) texts) st)) at
    ∙ sym (ap (λ (st : ReaderStep). model.Reader (reader_filled r (block_filling bytes) st)) at)

-- and lends it
pub lent_read : (a : model.Actor) (bytes : List ℕ) (x : ℕ) → next a ≡ op.ReadBlock x
    → ◌≡◌ {A = model.Lent} (lent (filled a (block_filling bytes))) (model.Room bytes)
lent_read a bytes x is = ⊎_elim
    (λ reader. let r : ReaderState = reader.0 in
    let asks : next (model.Reader r) ≡ op.ReadBlock x = sym (ap next reader.1) ∙ is in
    ap (λ (z : model.Actor). lent (filled z (block_filling bytes))) reader.1
    ∙ ap (λ (st : ReaderStep). lent (model.Reader (reader_filled r (block_filling bytes) st))) (asks_read r x r.checks
    asks))
    (λ none. absurd (subst IsNoRead is none))
    (reader_or_no_read a)

-- THE WHOLE GROUPS IN FRONT OF SOME BYTES ARE ONE LIST
one_more : (t : List ℕ) (ts : List (List ℕ)) (bytes : List ℕ) → AreInFront bytes (t ∷ ts) → AreInFront bytes [] → ⊥
one_more t ts bytes f g =
    let rest : List ℕ = joined_texts ts ++ f.rest in
    let are : g.rest ≡ t ++ rest = sym g.are ∙ f.are ∙ append_assoc t (joined_texts ts) f.rest in
    g.no_more (length t) (omega (arith, ap length are, length-append t rest)) f.each.0.1
    (subst IsText (sym (ap (take (length t)) are ∙ take_at t rest (length t) refl)) f.each.0.0)

pub one_front : (ts us : List (List ℕ)) (bytes : List ℕ) → AreInFront bytes ts → AreInFront bytes us
    → ◌≡◌ {A = List (List ℕ)} ts us
one_front [] [] bytes f g = refl
one_front [] (u ∷ us) bytes f g = absurd (one_more u us bytes g f)
one_front (t ∷ ts) [] bytes f g = absurd (one_more t ts bytes f g)
one_front (t ∷ ts) (u ∷ us) bytes f g =
    let left : List ℕ = joined_texts ts ++ f.rest in
    let right : List ℕ = joined_texts us ++ g.rest in
    let same : t ++ left ≡ u ++ right = sym (append_assoc t (joined_texts ts) f.rest) ∙ sym f.are ∙ g.are
    ∙ append_assoc u (joined_texts us) g.rest in
    let one = one_text t u left right f.each.0.0 g.each.0.0 same in
    let others = one_front ts us left (record { rest = f.rest; are = refl; each = f.each.1; no_more = f.no_more })
    (record { rest = g.rest; are = one.1; each = g.each.1; no_more = g.no_more }) in
    ap (λ (x : List ℕ). x ∷ ts) one.0 ∙ ap (λ (xs : List (List ℕ)). u ∷ xs) others

pub one_filling : (a : model.Actor) (f g : Filling) → IsFreeToCheck a → IsNoRead (next a) → Fills a f → KeepsTexts a f
    → Fills a g → KeepsTexts a g → ◌≡◌ {A = model.Actor} (filled a f) (filled a g)
one_filling (model.Reader r) f g free gives p h q k = by r.step refl p q
  where
    same_texts : (b : Bool) → archives r ≡ b → (archives r ≡ false → AreInFront (pending r) f.texts)
        → (archives r ≡ false → AreInFront (pending r) g.texts) → ◌≡◌ {A = List (List ℕ)} f.texts g.texts
    same_texts true is p q = h is ∙ sym (k is)
    same_texts false is p q = one_front f.texts g.texts (pending r) (p is) (q is)

    by : (st : ReaderStep) → r.step ≡ st → reader_fills r f st → reader_fills r g st
        → ◌≡◌ {A = model.Actor} (model.Reader (reader_filled r f st)) (model.Reader (reader_filled r g st))
    by reader_step.ReadBlock is p q = absurd (subst IsNoRead (asks_own r reader_step.ReadBlock is refl free) gives)
    by reader_step.GiveDevice is p q = ap (λ (ts : List (List ℕ)). model.Reader (record r { texts = ts }))
        (same_texts (archives r) refl p q)
    by _ is p q = refl
one_filling (model.User u) f g free gives p h q k = refl
one_filling (model.Writer s) f g free gives p h q k = refl
one_filling (model.Flusher s) f g free gives p h q k = refl
one_filling (model.Closer s) f g free gives p h q k = refl
one_filling (model.Cleaner s) f g free gives p h q k = refl
one_filling (model.Checkpointer s) f g free gives p h q k = refl

abbrev pub IsNoGive : Op → Type 0
IsNoGive op.GiveDevice = ⊥
IsNoGive _ = Unit {0}

-- nothing, or a block, may be put into whoever gives nothing back
pub fills_block : (a : model.Actor) (f : Filling) → IsFreeToCheck a → IsNoGive (next a) → Fills a f
fills_block (model.Reader r) f free plain = by r.step refl
  where
    by : (st : ReaderStep) → r.step ≡ st → reader_fills r f st
    by reader_step.GiveDevice is = absurd (subst IsNoGive (asks_own r reader_step.GiveDevice is refl free) plain)
    by _ is = tt
fills_block (model.User u) f free plain = tt
fills_block (model.Writer s) f free plain = tt
fills_block (model.Flusher s) f free plain = tt
fills_block (model.Closer s) f free plain = tt
fills_block (model.Cleaner s) f free plain = tt
fills_block (model.Checkpointer s) f free plain = tt

-- no reader of the log takes a list, or gives one back
gives_none : (r : ReaderState) (i : ℕ) (b : Bool) (st : ReaderStep)
    → cond b (op.Load word.Failed) (reader_op r st) ≡ op.GiveList i → ⊥
gives_none r i true st is = cc
gives_none r i false reader_step.LoadFlushed is = cc
gives_none r i false reader_step.TakeDevice is = cc
gives_none r i false reader_step.GiveBroken is = cc
gives_none r i false reader_step.ReadBlock is = cc
gives_none r i false reader_step.GiveDevice is = cc
gives_none r i false reader_step.Append is = cc
gives_none r i false reader_step.StorePlace is = cc
gives_none r i false reader_step.StoreFailed is = cc
gives_none r i false reader_step.GiveFailed is = cc
gives_none r i false reader_step.StoreLost is = cc
gives_none r i false reader_step.Failed is = cc

pub keeps_listed : (a : model.Actor) (f : Filling) (i : ℕ) → next a ≡ op.GiveList i → KeepsTexts a f
keeps_listed (model.Reader r) f i is = absurd (gives_none r i r.checks r.step is)
keeps_listed (model.User u) f i is = tt
keeps_listed (model.Writer s) f i is = tt
keeps_listed (model.Flusher s) f i is = tt
keeps_listed (model.Closer s) f i is = tt
keeps_listed (model.Cleaner s) f i is = tt
keeps_listed (model.Checkpointer s) f i is = tt
