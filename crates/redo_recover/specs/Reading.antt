-- A reading as the program gives it.
use Rattle.std.specs.Prelude.{ℕ, ◌≤◌, All, length, IfSome}
use Rattle.model_base.specs.declared.shape.Shape.{Shape}
use Rattle.model_log.specs.{GroupFits, IsInRound, IsTailPlace, layout_of}
use Rattle.model_log.specs.declared.layout.Layout.{Layout}
use Rattle.model_store.specs.{Reading}
use Rattle.model_store.specs.declared.tail.Tail.{Tail}
use Rattle.redo_recover.specs.Groups.{EndBehindStarts, IsEndOf}
use Rattle.redo_recover.specs.Pages.{AreNotAhead, ArePlacesOf}
use Rattle.redo_recover.specs.Start.{IsUsable}
use Rattle.redo_recover.specs.declared.recovered.Recovered.{Recovered}
use Rattle.redo_recover.specs.declared.scan.Scanned.{Scanned}

-- what was recovered
abbrev pub reading_of : Recovered → Reading
reading_of recovered = record {
  format = recovered.format;
  shape = recovered.shape;
  number = recovered.number;
  ckpt = recovered.ckpt;
  views = recovered.views.items;
  wholes = recovered.groups.items;
  end = recovered.end;
  pages = recovered.pages;
}

-- a tail block in which a block of the log was found: it is one of the two, and the block is one of the round
pub record IsTailFound (layout : Layout) (ckpt : ℕ) (tail : Tail) : Type 0 where
  pub place : IsTailPlace tail.which
  pub in_round : IsInRound layout ckpt tail.lsn

-- What is known of a scan whatever the log device tells: there are no more blocks than the log has, the last of them may
-- stand in a tail block, the log ends within a round after the checkpoint, and each group fits the store and ends past its start.
pub record IsScanOf (shape : Shape) (layout : Layout) (ckpt : ℕ) (scanned : Scanned) : Type 0 where
  pub few_views : length scanned.views.items ≤ layout.blocks
  pub tail : IfSome scanned.tail (IsTailFound layout ckpt)
  pub end : IsEndOf layout ckpt scanned.groups.items scanned.end
  pub fit : All (λ whole. GroupFits shape whole.group) scanned.groups.items
  pub rise : EndBehindStarts scanned.groups.items

-- What is known of it whatever the devices tell: recovery could start, no more blocks are scanned than the log has, the last
-- of them may stand in a tail block, the log ends within a round after the checkpoint, and there is each of the pages, none
-- of them ahead of that, and where it was found.
pub record IsOfDevices (log_size data_size : ℕ) (recovered : Recovered) : Type 0 where
  pub usable : IsUsable log_size data_size recovered.shape recovered.ckpt
  pub few_views : length recovered.views.items ≤ (layout_of recovered.format recovered.shape).blocks
  pub tail : IfSome recovered.tail (IsTailFound (layout_of recovered.format recovered.shape) recovered.ckpt)
  pub its_places : ArePlacesOf recovered.shape recovered.places recovered.pages
  pub end : IsEndOf (layout_of recovered.format recovered.shape) recovered.ckpt recovered.groups.items recovered.end
  pub not_ahead : AreNotAhead recovered.pages recovered.end
