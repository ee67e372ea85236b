-- What a reader's loads come to, one after the other.
use Rattle.std.proofs.Common.{List, None, Option, Some, [], ap, arith, drop, length, length-append, length-drop, length-take-le, refl, subst, suc, sym, take, true, zero, ℕ, ◌%◌, ◌*◌, ◌++◌, ◌+◌, ◌-◌, ◌/◌, ◌<◌, ◌^◌, ◌∙◌, ◌∷◌, ◌≡◌, ◌≢◌, ◌≤◌}
use Rattle.std.proofs.lemmas.List.{ext_get_or, get_or-drop, get_or-take}
use Rattle.std.specs.Prelude.{get_or, slice_index}
use native.Mathlib.Decide.{dec_le, ℕ_discrete}
use Rattle.atomic_table.specs.Seated.{TableId}
use Rattle.atomic_table.specs.Table.{Me}
use Rattle.atomic_table.specs.declared.shared.Seat.{Seat}
use Rattle.model_base.specs.{frame_length}
use Rattle.model_base.specs.declared.limits.TheConstants.{PAGE_TRAILER, USER_START}
use Rattle.model_core.proofs.FrameWords.{frame_byte, frame_long}
unfoldable use Rattle.model_core.specs.Packing.{lane}
use Rattle.model_core.specs.Packing.{frame_bytes}
use Rattle.model_core.specs.declared.limits.TheConstants.{WORD_LANES}
use Rattle.model_core.specs.declared.words.Layout.{Layout}
use Rattle.model_page.specs.{user_part}
use Rattle.model_reads.specs.declared.read.Glance.{Glance}
use Rattle.model_reads.specs.declared.read.ReadEnd.{ReadEnd}
use Rattle.model_reads.specs.declared.read.ReadEnd.TheVariants.{Failed, Page}
use Rattle.redo_rule.proofs.Retook.{one_head}
use Rattle.model_reads.specs.{added, dated, freed, read_of}
use Rattle.redo_rule.specs.Reading.{adds, checks, dates, ends, frees, Glanced, glancing, HasReadSo, HasOwnBelow, HasReadNone, HasReadPage, HasUserBytes, IsAt, IsReading, lane_at, MayRead, numbered_heard, view_heard, view_seats, with_glance, with_read}
use Rattle.redo_rule.specs.declared.law.Heard.{Heard}
use Rattle.redo_rule.specs.declared.law.Numbered.{Numbered}
use Rattle.redo_rule.specs.declared.law.Slot.{Slot}
use Rattle.redo_rule.specs.declared.law.View.{View}

-- THE USER BYTES OF A PAGE, whose frame's words are all read
pub user_bytes_are : (words bytes : List ℕ) → length bytes + frame_length ≡ WORD_LANES * length words
    → HasUserBytes words bytes → bytes ≡ user_part (frame_bytes words)
user_bytes_are words bytes long has = ext_get_or 0 bytes (user_part (frame_bytes words)) same_long
    (λ j low. has j low (omega arith)
    ∙ sym (get_or-take (length (frame_bytes words) - PAGE_TRAILER - USER_START) (drop USER_START (frame_bytes words)) j 0
    (let f = frame_long words in omega arith)
    ∙ get_or-drop USER_START (frame_bytes words) j 0 ∙ frame_byte words (USER_START + j)))
  where
    same_long : length bytes ≡ length (user_part (frame_bytes words))
    same_long =
        let f = frame_long words in
        let d = length-drop USER_START (frame_bytes words) in
        let t = length-take-le (length (frame_bytes words) - PAGE_TRAILER - USER_START) (drop USER_START (frame_bytes words))
        (omega arith) in omega arith

-- the words so far, and one more
pub next_bytes : (words : List ℕ) (word : ℕ) (old new : List ℕ) → length new ≡ length old → HasUserBytes words old
    → ((j : ℕ) → j < length old → (USER_START + j) / WORD_LANES ≡ length words
    → slice_index new j ≡ lane ((USER_START + j) % WORD_LANES) word)
    → ((j : ℕ) → j < length old → (USER_START + j) / WORD_LANES ≢ length words → slice_index new j ≡ slice_index old j)
    → HasUserBytes (words ++ word ∷ []) new
next_bytes words word old new long has here same j low there =
    let k : ℕ = (USER_START + j) / WORD_LANES in
    let l = length-append words (word ∷ []) in
    elim (ℕ_discrete k (length words)) [
      | yes last ↦ here j (omega arith) last
          ∙ ap (lane ((USER_START + j) % WORD_LANES)) (sym (ap (slice_index (words ++ word ∷ [])) last ∙ at_end words))
      | no before ↦ same j (omega arith) before ∙ has j (omega arith) (omega arith)
          ∙ ap (lane ((USER_START + j) % WORD_LANES)) (sym (at_front words (word ∷ []) k (omega arith)))
    ]
  where
    at_end : (ws : List ℕ) → slice_index (ws ++ word ∷ []) (length ws) ≡ word
    at_end [] = refl
    at_end (w ∷ ws) = at_end ws

    at_front : (ws more : List ℕ) (i : ℕ) → i < length ws → slice_index (ws ++ more) i ≡ slice_index ws i
    at_front [] more i low = absurd (omega arith)
    at_front (w ∷ ws) more zero low = refl
    at_front (w ∷ ws) more (suc i) low = at_front ws more i (omega arith)

module _ {L D : Type 0} (table : TableId) (layout : Layout) (page : ℕ) where
  -- where nothing is loaded
  pub glanced_self : (s : Seat (Slot L D) (View L D)) (g : Glance) → IsAt table s layout page g → (t : Seat (Slot L D) (View L D))
      → t.table_id ≡ s.table_id → t.id ≡ s.id → t.me ≡ s.me → Glanced s g t
  glanced_self s g o t of id me = record {
    of = of;
    id = id;
    is = λ x sits. me ∙ sym (ap
        (λ (l : List Numbered). let m : Me (Slot L D) (View L D) = (view_seats s.me.0 l, s.me.1) in m)
        (ap (λ (y : Numbered). let l : List Numbered = y ∷ [] in l) (its x sits) ∙ sym sits));
  }
    where
      its : (x : Numbered) → s.me.0.seats ≡ x ∷ [] → ◌≡◌ {A = Numbered} (numbered_heard x (with_glance x.heard g)) x
      its x sits =
          let who : ◌≡◌ {A = Numbered} o.may.who x = one_head s.me.0.seats o.may.who x o.may.sits sits in
          let reads : ◌≡◌ {A = Option Glance} (Some g) x.heard.glance =
          sym o.reading ∙ ap (λ (y : Numbered). y.heard.glance) who in
          ap (λ (z : Option Glance). numbered_heard x (record {
            groups = x.heard.groups;
            blocks = x.heard.blocks;
            reads = x.heard.reads;
            glance = z;
          })) reads

  -- after a load it is read still
  pub at_then : (s t : Seat (Slot L D) (View L D)) (k : Glance) → MayRead table s layout page → Glanced s k t
      → k.page ≡ page → IsAt table t layout page k
  at_then s t k o then its_page = record {
    may = record {
      of = then.of ∙ o.of;
      words = o.words;
      layout_is = ap (λ (m : Me (Slot L D) (View L D)). m.0.layout) (then.is o.who o.sits) ∙ o.layout_is;
      who = numbered_heard o.who (with_glance o.who.heard k);
      sits = ap (λ (m : Me (Slot L D) (View L D)). m.0.seats) (then.is o.who o.sits);
      there = o.there;
    };
    reading = refl;
    its_page = its_page;
  }

  -- two loads
  pub glanced_on : (s t u : Seat (Slot L D) (View L D)) (k l : Glance) → MayRead table s layout page → Glanced s k t
      → Glanced t l u → Glanced s l u
  glanced_on s t u k l o one two = record {
    of = two.of ∙ one.of;
    id = two.id ∙ one.id;
    is = λ x sits.
        let first = one.is x sits in
        two.is (numbered_heard x (with_glance x.heard k)) (ap (λ (m : Me (Slot L D) (View L D)). m.0.seats) first)
        ∙ ap (λ (m : Me (Slot L D) (View L D)). let n : Me (Slot L D) (View L D) =
        (view_heard m.0 (numbered_heard x (with_glance x.heard k)) (with_glance x.heard l), m.1) in n) first;
  }

  pub ended_on : (s t u : Seat (Slot L D) (View L D)) (k : Glance) (r : ReadEnd) → MayRead table s layout page
      → Glanced s k t → HasReadSo t r u → HasReadSo s r u
  ended_on s t u k r o one two = record {
    of = two.of ∙ one.of;
    id = two.id ∙ one.id;
    is = λ x sits.
        let first = one.is x sits in
        two.is (numbered_heard x (with_glance x.heard k)) (ap (λ (m : Me (Slot L D) (View L D)). m.0.seats) first)
        ∙ ap (λ (m : Me (Slot L D) (View L D)). let n : Me (Slot L D) (View L D) =
        (view_heard m.0 (numbered_heard x (with_glance x.heard k)) (with_read x.heard r), m.1) in n) first;
  }

  -- while nothing is read, one may be read still
  pub may_still : (s t : Seat (Slot L D) (View L D)) → MayRead table s layout page → HasReadNone s t
      → MayRead table t layout page
  may_still s t o then = let is = then.is o.who o.sits in record {
    of = then.of ∙ o.of;
    words = o.words;
    layout_is = ap (λ (m : Me (Slot L D) (View L D)). m.0.layout) is.1 ∙ o.layout_is;
    who = numbered_heard o.who (glancing o.who.heard is.0);
    sits = ap (λ (m : Me (Slot L D) (View L D)). m.0.seats) is.1;
    there = o.there;
  }

-- NOTHING IS READ by a look in vain,
pub none_by : {L D : Type 0} (s t : Seat (Slot L D) (View L D)) (g : Glance) → Glanced s g t → HasReadNone s t
none_by s t g o = record { of = o.of; id = o.id; is = λ x sits. (Some g, o.is x sits) }

-- nor where the seat is as it was,
pub none_still : {L D : Type 0} (s t : Seat (Slot L D) (View L D)) → t.table_id ≡ s.table_id → t.id ≡ s.id
    → t.me ≡ s.me → HasReadNone s t
none_still {L} {D} s t of id me = record {
  of = of;
  id = id;
  is = λ x sits. (
    x.heard.glance,
    me ∙ ap (λ (l : List Numbered). let m : Me (Slot L D) (View L D) = (view_seats s.me.0 l, s.me.1) in m) sits,
  );
}

-- A LOAD OF FAILED leaves the read to go on, or has ended it,
module _ {L D : Type 0} (s t : Seat (Slot L D) (View L D)) (of : t.table_id ≡ s.table_id) (id : t.id ≡ s.id) (n : ℕ)
    (then : checks s.me n t.me) where
  pub unfailed_then : n ≡ 0 → HasReadNone s t
  unfailed_then none = none_still s t of id (then.1 none)

  pub failed_then : n ≢ 0 → HasReadSo s (Failed n) t
  failed_then some = record { of = of; id = id; is = then.2 some }

-- and whatever is done then is done behind that
module _ {L D : Type 0} (s t u : Seat (Slot L D) (View L D)) (one : HasReadNone s t) where
  view_then : (x : Numbered) (sits : s.me.0.seats ≡ x ∷ []) (heard : Heard)
      → ◌≡◌ {A = Me (Slot L D) (View L D)}
      (view_heard t.me.0 (numbered_heard x (glancing x.heard (one.is x sits).0)) heard, t.me.1)
      (view_heard s.me.0 x heard, s.me.1)
  view_then x sits heard = ap (λ (m : Me (Slot L D) (View L D)). let n : Me (Slot L D) (View L D) =
      (view_heard m.0 (numbered_heard x (glancing x.heard (one.is x sits).0)) heard, m.1) in n) (one.is x sits).1

  seats_then : (x : Numbered) (sits : s.me.0.seats ≡ x ∷ [])
      → ◌≡◌ {A = List Numbered} t.me.0.seats (numbered_heard x (glancing x.heard (one.is x sits).0) ∷ [])
  seats_then x sits = ap (λ (m : Me (Slot L D) (View L D)). m.0.seats) (one.is x sits).1

  pub none_on : HasReadNone t u → HasReadNone s u
  none_on two = record {
    of = two.of ∙ one.of;
    id = two.id ∙ one.id;
    is = λ x sits.
        let y = numbered_heard x (glancing x.heard (one.is x sits).0) in
        let then = two.is y (seats_then x sits) in
        (then.0, then.1 ∙ view_then x sits (glancing x.heard then.0));
  }

  pub ended_behind : (r : ReadEnd) → HasReadSo t r u → HasReadSo s r u
  ended_behind r two = record {
    of = two.of ∙ one.of;
    id = two.id ∙ one.id;
    is = λ x sits. two.is (numbered_heard x (glancing x.heard (one.is x sits).0)) (seats_then x sits)
        ∙ view_then x sits (with_read x.heard r);
  }

  pub read_on : (page as_of : ℕ) (bytes : List ℕ) → HasReadPage t page as_of bytes u → HasReadPage s page as_of bytes u
  read_on page as_of bytes two = record {
    of = two.of ∙ one.of;
    id = two.id ∙ one.id;
    sn = two.sn;
    as_of_is = two.as_of_is;
    own = λ x sits. two.own (numbered_heard x (glancing x.heard (one.is x sits).0)) (seats_then x sits);
    is = λ x sits.
        two.is (numbered_heard x (glancing x.heard (one.is x sits).0)) (seats_then x sits)
        ∙ view_then x sits (with_read x.heard (Page (record { page = page; lsn = as_of; bytes = bytes })));
  }

-- WHAT A LOAD LEAVES
module _ {L D : Type 0} (table : TableId) (layout : Layout) (page : ℕ) (s t : Seat (Slot L D) (View L D))
    (of : t.table_id ≡ s.table_id) (id : t.id ≡ s.id) (g : Glance) (o : IsAt table s layout page g) where
  its_reading : (x : Numbered) → s.me.0.seats ≡ x ∷ [] → IsReading s.me.0 x g
  its_reading x sits = (
    sits,
    sym (ap (λ (y : Numbered). y.heard.glance) (one_head s.me.0.seats o.may.who x o.may.sits sits)) ∙ o.reading,
  )

  pub added_then : (n : ℕ) → adds s.me n t.me → Glanced s (added g n) t
  added_then n then = record { of = of; id = id; is = λ x sits. then x g (its_reading x sits) }

  pub dated_then : (n : ℕ) → dates s.me n t.me → Glanced s (dated g n) t
  dated_then n then = record { of = of; id = id; is = λ x sits. (then x g (its_reading x sits)).2 }

  pub small_then : (n : ℕ) → dates s.me n t.me → n < 2 ^ 61
  small_then n then = (then o.may.who g (its_reading o.may.who o.may.sits)).0

  pub own_then : (n : ℕ) → dates s.me n t.me → (x : Numbered) → s.me.0.seats ≡ x ∷ [] → HasOwnBelow x.actor n
  own_then n then x sits = (then x g (its_reading x sits)).1

  pub freed_then : (n : ℕ) → frees s.me n t.me → n ≡ 0 → Glanced s (freed g) t
  freed_then n then free = record { of = of; id = id; is = λ x sits. (then x g (its_reading x sits)).0 free }

  pub held_then : (n : ℕ) → frees s.me n t.me → n ≢ 0 → Glanced s g t
  held_then n then held = glanced_self table layout page s g o t of id
      ((then o.may.who g (its_reading o.may.who o.may.sits)).1 held)

  pub ended_then : (n : ℕ) → ends s.me n t.me → n ≡ g.newest → HasReadSo s (Page (read_of g)) t
  ended_then n then same = record { of = of; id = id; is = λ x sits. (then x g (its_reading x sits)).0 same }

  pub moved_then : (n : ℕ) → ends s.me n t.me → n ≢ g.newest → Glanced s g t
  moved_then n then other = glanced_self table layout page s g o t of id
      ((then o.may.who g (its_reading o.may.who o.may.sits)).1 other)
