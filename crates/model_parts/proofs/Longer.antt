-- What a log device holds of a run it holds of a longer one.
use Rattle.std.proofs.Common.{ℕ, inl, inr, List, ◌++◌, ⊎_elim}
use Rattle.model_base.specs.declared.shape.Shape.{Shape}
use Rattle.model_device.specs.{Disk}
use Rattle.model_log.specs.declared.group.Whole.{Whole}
use Rattle.model_log.specs.declared.layout.Layout.{Layout}
use Rattle.model_log.specs.{block_of, IsAtDataStart, IsBoundary, IsRunOf, run_layout, spans_of}
use Rattle.model_log.proofs.BoundaryRound.{block-longer}
use Rattle.model_log.proofs.Runs.{boundary-longer}
use Rattle.model_parts.specs.declared.marks.LogMarks.{LogMarks}
use Rattle.model_parts.specs.declared.marks.TailMarks.{TailMarks}
use Rattle.model_parts.specs.Held.{AreInOrder, HoldsTail, IsBlockPlace, IsLive, IsTail, IsWritten, LogHoldsWith}

in_order-more : (layout : Layout) (s : ℕ) (wholes more : List Whole) (marks : LogMarks) → IsRunOf s (wholes ++ more) → AreInOrder layout s wholes marks
    → AreInOrder layout s (wholes ++ more) marks
in_order-more layout s wholes more marks run order = record {
  starts = order.starts;
  run = run;
  stable = boundary-longer s wholes more marks.stable order.stable;
  written = boundary-longer s wholes more marks.written order.written;
  given = boundary-longer s wholes more marks.given order.given;
  stable_written = order.stable_written;
  written_given = order.written_given;
  ckpt_aligned = order.ckpt_aligned;
  ckpt_started = order.ckpt_started;
  ckpt_from = order.ckpt_from;
  ckpt_asked = order.ckpt_asked;
  asked_stable = order.asked_stable;
  room = order.room;
}

place-longer : (s : ℕ) (wholes more : List Whole) (low high b : ℕ) (bytes : List ℕ) → IsAtDataStart s → IsRunOf s (wholes ++ more) → IsBoundary s (spans_of wholes) high
    → IsBlockPlace s wholes low high b bytes → IsBlockPlace s (wholes ++ more) low high b bytes
place-longer s wholes more low high b bytes start run boundary is =
    ⊎_elim (λ full. inl (record { full = full.full; block = block-longer s wholes more high b bytes start run boundary full.block }))
    (λ none. inr none) is

tail-longer : (s : ℕ) (wholes more : List Whole) (high from : ℕ) (bytes : List ℕ) → IsAtDataStart s → IsRunOf s (wholes ++ more)
    → IsTail s wholes high from bytes → IsTail s (wholes ++ more) high from bytes
tail-longer s wholes more high from bytes start run is b aligned later =
    ⊎_elim (λ none. inl none)
    (λ part. inr (record {
      mark = part.mark;
      boundary = boundary-longer s wholes more part.mark part.boundary;
      up_to = part.up_to;
      some = part.some;
      part = part.part;
      block = block-longer s wholes more part.mark b bytes start run part.boundary part.block;
    })) (is b aligned later)

own-longer : (s : ℕ) (wholes more : List Whole) (mark : ℕ) (bytes : List ℕ) → IsAtDataStart s → IsRunOf s (wholes ++ more) → IsBoundary s (spans_of wholes) mark
    → HoldsTail s wholes mark bytes → HoldsTail s (wholes ++ more) mark bytes
own-longer s wholes more mark bytes start run boundary is =
    ⊎_elim (λ none. inl none)
    (λ tail. inr (record { block = block-longer s wholes more mark (block_of mark) bytes start run boundary tail.block; turn = tail.turn })) is

pub longer-holds : (shape : Shape) (s : ℕ) (wholes more : List Whole) (marks : LogMarks) (tails : TailMarks) (disk : Disk) → IsRunOf s (wholes ++ more)
    → LogHoldsWith shape s wholes marks tails disk → LogHoldsWith shape s (wholes ++ more) marks tails disk
longer-holds shape s wholes more marks tails disk run holds = record {
  long = holds.long;
  sectors = holds.sectors;
  heads = holds.heads;
  order = in_order-more (run_layout shape) s wholes more marks run holds.order;
  kept = record {
    boundary = boundary-longer s wholes more tails.kept holds.kept.boundary;
    from = holds.kept.from;
    up_to = holds.kept.up_to;
    place = holds.kept.place;
  };
  blocks = λ b in_round bytes is. place-longer s wholes more tails.kept marks.given b bytes holds.order.starts run holds.order.given (holds.blocks b in_round bytes is);
  tail_blocks = λ k at bytes is. tail-longer s wholes more marks.given marks.ckpt bytes holds.order.starts run (holds.tail_blocks k at bytes is);
  kept_tail = λ bytes is. own-longer s wholes more tails.kept bytes holds.order.starts run holds.kept.boundary (holds.kept_tail bytes is);
  checkpoint = holds.checkpoint;
  beside = holds.beside;
}

pub longer-live : (shape : Shape) (s : ℕ) (wholes more : List Whole) (marks : LogMarks) (tails : TailMarks) (disk : Disk) → IsRunOf s (wholes ++ more)
    → IsLive shape s wholes marks tails disk → IsLive shape s (wholes ++ more) marks tails disk
longer-live shape s wholes more marks tails disk run live =
    let order : AreInOrder (run_layout shape) s wholes marks = live.holds.order in
    let is : IsWritten shape s wholes marks tails disk = live.is_written in
    record {
      holds = longer-holds shape s wholes more marks tails disk run live.holds;
      is_written = record {
        long = is.long;
        heads = is.heads;
        all_given = is.all_given;
        place = is.place;
        blocks = λ b in_round. place-longer s wholes more marks.written marks.written b _ order.starts run order.written (is.blocks b in_round);
        tail_blocks = λ k at. tail-longer s wholes more marks.written marks.ckpt _ order.starts run (is.tail_blocks k at);
        newest_tail = own-longer s wholes more marks.written _ order.starts run order.written is.newest_tail;
        checkpoint = is.checkpoint;
        beside = is.beside;
      };
    }
