-- What stands at the front of bytes off which a group is read: the text of one, less than that, or none.
use Rattle.std.specs.Prelude.{ℕ, ◌≤◌, List, length, take}
use Rattle.model_base.specs.declared.limits.TheConstants.{MAX_GROUP}
use Rattle.model_base.specs.declared.got.Got.{Got}
use Rattle.model_base.specs.declared.got.Got.TheVariants.{Value, Short, Bad}
use Rattle.model_log.specs.declared.rec.Rec.{Rec}
use Rattle.model_log.specs.Group.{IsGroupText, IsFront}

-- so many bytes at the front, at most 8,192, are the text of the group
abbrev pub BeginsWithGroup : List ℕ → List Rec → ℕ → Type 0
BeginsWithGroup bytes group len = (len ≤ length bytes) × (len ≤ MAX_GROUP) × IsGroupText (take len bytes) group

-- What reading a group off the front of the bytes gives: the group and the length of its text, or that more bytes
-- have to come, or that no group begins so.
abbrev pub GivesGroup : List ℕ → Got (List Rec) → Type 0
GivesGroup bytes (Value group len) = BeginsWithGroup bytes group len
GivesGroup bytes Short = IsFront bytes
GivesGroup bytes Bad =
    ((group : List Rec) (len : ℕ) → BeginsWithGroup bytes group len → ⊥) × (IsFront bytes → ⊥)
