-- What is known of a device's content, where it tells, and what was read off it.
use Rattle.std.proofs.Common.{ℕ, List, Option, Some, None}
use Rattle.model_device.specs.{Disk}
use Rattle.redo_recover.specs.Devices.{OnContent, OnContents}

-- what follows from what is known of a content is known too
pub content-weaker : (told : Option Disk) (P Q : List ℕ → Type 0) → ((content : List ℕ) → P content → Q content) → OnContent told P → OnContent told Q
content-weaker None P Q weaker known = tt
content-weaker (Some disk) P Q weaker known = weaker disk.reads known

-- so is what follows from two such facts
pub content-both : (told : Option Disk) (P Q R : List ℕ → Type 0) → ((content : List ℕ) → P content → Q content → R content)
    → OnContent told P → OnContent told Q → OnContent told R
content-both None P Q R joins first second = tt
content-both (Some disk) P Q R joins first second = joins disk.reads first second

-- what holds of every content
pub content-any : (told : Option Disk) (P : List ℕ → Type 0) → ((content : List ℕ) → P content) → OnContent told P
content-any None P any = tt
content-any (Some disk) P any = any disk.reads

-- what follows from what is known of both contents
pub contents-from : (log data_told : Option Disk) (P Q : List ℕ → Type 0) (R : List ℕ → List ℕ → Type 0)
    → ((log_bytes data_bytes : List ℕ) → P log_bytes → Q data_bytes → R log_bytes data_bytes)
    → OnContent log P → OnContent data_told Q → OnContents log data_told R
contents-from None data_told P Q R joins first second = tt
contents-from (Some log) data_told P Q R joins first second =
    content-weaker data_told Q (R log.reads) (λ data_bytes known. joins log.reads data_bytes first known) second

-- what follows from what is known of both, and of one of them
pub contents-more : (log data_told : Option Disk) (P : List ℕ → List ℕ → Type 0) (Q : List ℕ → Type 0) (R : List ℕ → List ℕ → Type 0)
    → ((log_bytes data_bytes : List ℕ) → P log_bytes data_bytes → Q log_bytes → R log_bytes data_bytes)
    → OnContents log data_told P → OnContent log Q → OnContents log data_told R
contents-more None data_told P Q R joins both first = tt
contents-more (Some log) None P Q R joins both first = tt
contents-more (Some log) (Some disk) P Q R joins both first = joins log.reads disk.reads both first

pub contents-other : (log data_told : Option Disk) (P : List ℕ → List ℕ → Type 0) (Q : List ℕ → Type 0) (R : List ℕ → List ℕ → Type 0)
    → ((log_bytes data_bytes : List ℕ) → P log_bytes data_bytes → Q data_bytes → R log_bytes data_bytes)
    → OnContents log data_told P → OnContent data_told Q → OnContents log data_told R
contents-other None data_told P Q R joins both second = tt
contents-other (Some log) None P Q R joins both second = tt
contents-other (Some log) (Some disk) P Q R joins both second = joins log.reads disk.reads both second
