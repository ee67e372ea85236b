-- A page is read in a seat, load by load, beside the turns of the actors.
use Rattle.std.specs.Prelude.{List, None, Option, Some, [], false, length, slice_index, ℕ, ◌%◌, ◌*◌, ◌++◌, ◌+◌, ◌/◌, ◌<◌, ◌^◌, ◌∷◌, ◌≡◌, ◌≢◌, ◌≤◌}
use Rattle.atomic_table.specs.Seated.{TableId}
use Rattle.atomic_table.specs.Table.{Me}
use Rattle.atomic_table.specs.declared.shared.Seat.{Seat}
use Rattle.model_base.specs.declared.limits.TheConstants.{USER_START}
use Rattle.model_core.specs.{line_at, lsn, word_count}
use Rattle.model_core.specs.States as model
unfoldable use Rattle.model_core.specs.Packing.{lane}
use Rattle.model_core.specs.declared.limits.TheConstants.{WORD_LANES}
use Rattle.model_core.specs.declared.words.Layout.{Layout}
use Rattle.model_reads.specs.{added, begun, dated, freed, read_of}
use Rattle.model_reads.specs.declared.read.Glance.{Glance}
use Rattle.model_reads.specs.declared.read.ReadEnd.{ReadEnd}
use Rattle.model_reads.specs.declared.read.ReadEnd.TheVariants.{Failed, Page}
use Rattle.redo_rule.specs.declared.law.Heard.{Heard}
use Rattle.redo_rule.specs.declared.law.Numbered.{Numbered}
use Rattle.redo_rule.specs.declared.law.Slot.{Slot}
use Rattle.redo_rule.specs.declared.law.View.{View}

-- a page is being read;
abbrev pub with_glance : Heard → Glance → Heard
with_glance heard g = record { groups = heard.groups; blocks = heard.blocks; reads = heard.reads; glance = Some g }

-- or this is known of one, if any;
abbrev pub glancing : Heard → Option Glance → Heard
glancing heard glance = record {
  groups = heard.groups;
  blocks = heard.blocks;
  reads = heard.reads;
  glance = glance;
}

-- or a read came to this
abbrev pub with_read : Heard → ReadEnd → Heard
with_read heard r = record {
  groups = heard.groups;
  blocks = heard.blocks;
  reads = heard.reads ++ r ∷ [];
  glance = None;
}

abbrev pub numbered_heard : Numbered → Heard → Numbered
numbered_heard x heard = record { number = x.number; actor = x.actor; heard = heard; errand = x.errand }

-- each group that a user has reserved ends at or below this sn
abbrev pub HasOwnBelow : model.Actor → ℕ → Type 0
HasOwnBelow (model.User u) n = (k : ℕ) → k < length u.starts
    → slice_index u.starts k + length (line_at u.lines k).bytes ≤ n
HasOwnBelow _ n = Unit {0}

module _ {L D : Type 0} where
  -- the seat has these actors, and all else is as it was
  abbrev pub view_seats : View L D → List Numbered → View L D
  view_seats v seats = record {
    about = v.about;
    layout = v.layout;
    seats = seats;
    held = v.held;
    data_part = v.data_part;
  }

  -- the seat has heard this, and all else is as it was
  abbrev pub view_heard : View L D → Numbered → Heard → View L D
  view_heard v x heard = view_seats v (numbered_heard x heard ∷ [])

  -- the seat reads a page of which it knows this
  abbrev pub IsReading : View L D → Numbered → Glance → Type 0
  IsReading v x g = (v.seats ≡ x ∷ []) × ◌≡◌ {A = Option Glance} x.heard.glance (Some g)

  -- THE LOADS: of FAILED, which ends the read where that isn't 0,
  abbrev pub checks : Me (Slot L D) (View L D) → ℕ → Me (Slot L D) (View L D) → Type 0
  checks m n m' = (n < 2 ^ 32) × (n ≡ 0 → m' ≡ m)
      × (n ≢ 0 → (x : Numbered) → m.0.seats ≡ x ∷ [] → m' ≡ (view_heard m.0 x (with_read x.heard (Failed n)), m.1))

  -- of NEWEST, which begins,
  abbrev pub begins : (page : ℕ) → Me (Slot L D) (View L D) → ℕ → Me (Slot L D) (View L D) → Type 0
  begins page m n m' = (x : Numbered) → m.0.seats ≡ x ∷ []
      → m' ≡ (view_heard m.0 x (with_glance x.heard (begun page n)), m.1)

  -- of the next word of the frame,
  abbrev pub adds : Me (Slot L D) (View L D) → ℕ → Me (Slot L D) (View L D) → Type 0
  adds m n m' = (x : Numbered) (g : Glance) → IsReading m.0 x g
      → m' ≡ (view_heard m.0 x (with_glance x.heard (added g n)), m.1)

  -- of SN,
  abbrev pub dates : Me (Slot L D) (View L D) → ℕ → Me (Slot L D) (View L D) → Type 0
  dates m n m' = (x : Numbered) (g : Glance) → IsReading m.0 x g
      → (n < 2 ^ 61) × HasOwnBelow x.actor n × (m' ≡ (view_heard m.0 x (with_glance x.heard (dated g n)), m.1))

  -- of the latch,
  abbrev pub frees : Me (Slot L D) (View L D) → ℕ → Me (Slot L D) (View L D) → Type 0
  frees m n m' = (x : Numbered) (g : Glance) → IsReading m.0 x g
      → (n ≡ 0 → m' ≡ (view_heard m.0 x (with_glance x.heard (freed g)), m.1)) × (n ≢ 0 → m' ≡ m)

  -- and of NEWEST again
  abbrev pub ends : Me (Slot L D) (View L D) → ℕ → Me (Slot L D) (View L D) → Type 0
  ends m n m' = (x : Numbered) (g : Glance) → IsReading m.0 x g
      → (n ≡ g.newest → m' ≡ (view_heard m.0 x (with_read x.heard (Page (read_of g))), m.1)) × (n ≢ g.newest → m' ≡ m)

  -- A PAGE MAY BE READ in the seat, which is at this table and of one actor.
  pub record MayRead (table : TableId) (seat : Seat (Slot L D) (View L D)) (layout : Layout) (page : ℕ) : Type 0 where
    pub of : seat.table_id ≡ table
    pub words : table.words ≡ word_count layout
    pub layout_is : seat.me.0.layout ≡ layout
    pub who : Numbered
    pub sits : seat.me.0.seats ≡ who ∷ []
    pub there : page < layout.pages

  -- it is being read there, and this is known of it
  pub record IsAt (table : TableId) (seat : Seat (Slot L D) (View L D)) (layout : Layout) (page : ℕ) (g : Glance)
      : Type 0 where
    pub may : MayRead table seat layout page
    pub reading : ◌≡◌ {A = Option Glance} may.who.heard.glance (Some g)
    pub its_page : g.page ≡ page

  -- the seat knows this of a page that is being read, and all else is as it was
  pub record Glanced (old : Seat (Slot L D) (View L D)) (g : Glance) (new : Seat (Slot L D) (View L D)) : Type 0 where
    pub of : new.table_id ≡ old.table_id
    pub id : new.id ≡ old.id
    pub is : (x : Numbered) → old.me.0.seats ≡ x ∷ []
        → new.me ≡ (view_heard old.me.0 x (with_glance x.heard g), old.me.1)

  -- THE PAGE WAS READ in the seat, as of this lsn, with these user bytes, and all else is as it was. No group that the seat's
  -- user has reserved ends above that lsn.
  pub record HasReadPage (old : Seat (Slot L D) (View L D)) (page as_of : ℕ) (bytes : List ℕ)
      (new : Seat (Slot L D) (View L D)) : Type 0 where
    pub of : new.table_id ≡ old.table_id
    pub id : new.id ≡ old.id
    pub sn : ℕ
    pub as_of_is : as_of ≡ lsn sn
    pub own : (x : Numbered) → old.me.0.seats ≡ x ∷ [] → HasOwnBelow x.actor sn
    pub is : (x : Numbered) → old.me.0.seats ≡ x ∷ [] → new.me ≡ (
      view_heard old.me.0 x
          (with_read x.heard (Page (record { page = page; lsn = as_of; bytes = bytes }))),
      old.me.1,
    )

  -- NOTHING WAS READ in the seat: at most other things are known of a page that is being read, and all else is as it
  -- was.
  pub record HasReadNone (old new : Seat (Slot L D) (View L D)) : Type 0 where
    pub of : new.table_id ≡ old.table_id
    pub id : new.id ≡ old.id
    pub is : (x : Numbered) → old.me.0.seats ≡ x ∷ [] → (glance : Option Glance)
        × (new.me ≡ (view_heard old.me.0 x (glancing x.heard glance), old.me.1))

-- the user byte of a page that stands in a word of its frame, if it stands there
abbrev pub lane_at : ℕ → ℕ → ℕ
lane_at j word = lane ((USER_START + j) % WORD_LANES) word

-- the user bytes of a page among those are these, as far as its frame's words are read
abbrev pub HasUserBytes : List ℕ → List ℕ → Type 0
HasUserBytes words bytes = (j : ℕ) → j < length bytes → (USER_START + j) / WORD_LANES < length words
    → slice_index bytes j ≡ lane_at j (slice_index words ((USER_START + j) / WORD_LANES))

-- so many words of a page are read, whose NEWEST was this
abbrev pub looked : (page n : ℕ) → List ℕ → Glance
looked page n words = record { page = page; newest = n; words = words; upto = n; seen_free = false }

module _ {L D : Type 0} where
  -- THE READ HAS COME TO THIS in the seat, and all else is as it was
  pub record HasReadSo (old : Seat (Slot L D) (View L D)) (r : ReadEnd) (new : Seat (Slot L D) (View L D)) : Type 0 where
    pub of : new.table_id ≡ old.table_id
    pub id : new.id ≡ old.id
    pub is : (x : Numbered) → old.me.0.seats ≡ x ∷ []
        → new.me ≡ (view_heard old.me.0 x (with_read x.heard r), old.me.1)

  -- all words of its frame are read, and its user bytes are these
  pub record HasAllWords (old : Seat (Slot L D) (View L D)) (page n size : ℕ) (bytes : List ℕ)
      (new : Seat (Slot L D) (View L D)) : Type 0 where
    pub words : List ℕ
    pub all : WORD_LANES * length words ≡ size
    pub glance : Glanced old (looked page n words) new
    pub its_bytes : HasUserBytes words bytes
