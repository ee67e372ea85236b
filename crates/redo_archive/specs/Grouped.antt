-- Groups that are read and applied while the bytes of an archive come in.
use Rattle.std.specs.Prelude.{ℕ, ◌≡◌, ◌<◌, ◌+◌, ◌*◌, Bool, true, false, List, length}
use Rattle.model_base.specs.declared.limits.TheConstants.{LSN_LIMIT}
use Rattle.model_base.specs.declared.shape.Shape.{Shape}
use Rattle.model_log.specs.declared.group.Whole.{Whole}
use Rattle.model_log.specs.{IsFront, last_span_end, sn_of, spans_of}
use Rattle.model_page.specs.declared.content.Content.{Content}
use Rattle.model_store.specs.{folded}
use Rattle.model_archive.specs.{BreaksAt, ending_by}
use Rattle.redo_archive.specs.declared.groups.Groups.{Groups}
use Rattle.redo_archive.specs.declared.restored.Restored.{Restored}
use Rattle.redo_recover.specs.Runs.{AreGroupsSoFar}

-- what groups are read for: of a store of this shape, from the lsn `start` on, to restore these pages for an lsn
pub record Aim : Type 0 where
  pub shape : Shape
  pub start : ℕ
  pub lsn : ℕ
  pub pages : List Content

-- The bytes are groups up to the lsn `at`, and then the rest; this is restored by those that end at or below the lsn.
pub record IsApplied (aim : Aim) (bytes : List ℕ) (at : ℕ) (rest : List ℕ) (restored : Restored) : Type 0 where
  pub wholes : List Whole
  pub so_far : AreGroupsSoFar aim.shape bytes aim.start wholes at rest
  pub n_is : restored.n ≡ length (ending_by aim.lsn wholes)
  pub end_is : restored.end ≡ last_span_end aim.start (spans_of (ending_by aim.lsn wholes))
  pub pages_are : restored.pages ≡ folded aim.pages (ending_by aim.lsn wholes)

-- The groups of the bytes were read, up to less than a whole one, or up to where they break.
pub record AreRead (aim : Aim) (bytes : List ℕ) (groups : Groups) : Type 0 where
  pub live : groups.broken ≡ false → IsApplied aim bytes groups.at groups.rest.items groups.restored
      × IsFront groups.rest.items
  pub broken : groups.broken ≡ true → BreaksAt aim.shape bytes aim.start groups.at

-- lsns and numbers have room for as many bytes more as are left and as come
pub record HasLsnRoom (at n : ℕ) (rest : List ℕ) (count : ℕ) : Type 0 where
  pub lsns : sn_of at + length rest + count < 2 * LSN_LIMIT
  pub numbers : n + length rest + count < 2 * LSN_LIMIT

-- the groups restore this, end there, and have these bytes past them
pub record AreEnding (restored : Restored) (at : ℕ) (rest : List ℕ) (broken : Bool) (groups : Groups) : Type 0 where
  pub restored_is : groups.restored ≡ restored
  pub at_is : groups.at ≡ at
  pub rest_is : groups.rest.items ≡ rest
  pub broken_is : groups.broken ≡ broken
