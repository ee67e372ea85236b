use Rattle.std.proofs.Common.{ap, arith, refl, sym, List, ◌∙◌}
use Rattle.std.specs.Slots.{slots_filled, slots_items}
use lib.ListN.{get_elem?}
use Rattle.model_core.specs.{tail_of}
use Rattle.redo_rule.proofs.Finishing.{all_empty, data_there, four_at, log_there, parts_left, small, still_there, work_left}
use Rattle.redo_rule.specs.declared.law.Slot.{Slot}
use Rattle.redo_rule.proofs.closing.empty_table.Goals as goal

pub close_with-closed-requires : goal.close_with-closed-requires
close_with-closed-requires g c = c.requires.first.of

pub word_in-requires-clause-there : goal.word_in-requires-clause-there
word_in-requires-clause-there g c = let n = c.close_with-closed.ensures.counts.0 in let w =
    c.requires.first.words in omega arith

pub word_in-code-requires-clause-there : goal.word_in-code-requires-clause-there
word_in-code-requires-clause-there g c = let n = c.close_with-closed.ensures.counts.0 in let w =
    c.requires.first.words in omega arith

pub overflow_cast-code : goal.overflow_cast-code
overflow_cast-code g c = let end = c.requires.ends (slots_items c.close_with-closed.result.words)
    (slots_items c.close_with-closed.result.slots) c.close_with-closed.ensures.values.2 in let n = small g.L.Sectors.seen g.L.Sectors.gives g.D.Sectors.seen g.D.Sectors.gives
    c.args.board.shared.key end.0 end.1 (slots_items c.close_with-closed.result.words)
    (slots_items c.close_with-closed.result.slots) end.2 in let e = c.word_in-code.ensures in omega
    arith

pub take-log-requires : goal.take-log-requires
take-log-requires g c = (
  (let n = c.close_with-closed.ensures.counts.1 in let m = c.requires.first.slots in omega
      arith),
  (c.close_with-closed.ensures.values.1 0 (omega arith) (let n = c.close_with-closed.ensures.counts.1 in let
      m = c.requires.first.slots in omega arith)),
)

pub take-first_list-requires : goal.take-first_list-requires
take-first_list-requires g c = (
  (let n = c.close_with-closed.ensures.counts.1 in let m = c.requires.first.slots in let l1
      = c.take-log.ensures.others.2 in omega arith),
  (still_there (slots_filled c.close_with-closed.result.slots)
      (slots_filled c.take-log.new.self.slots) 0 1 c.take-log.ensures.others.1 (λ e. omega arith)
      (c.close_with-closed.ensures.values.1 1 (omega arith) (let n = c.close_with-closed.ensures.counts.1 in let m =
      c.requires.first.slots in omega arith))),
)

pub take-second_list-requires : goal.take-second_list-requires
take-second_list-requires g c = (
  (let n = c.close_with-closed.ensures.counts.1 in let m = c.requires.first.slots in let l1
      = c.take-log.ensures.others.2 in let l2 = c.take-first_list.ensures.others.2 in omega arith),
  (still_there (slots_filled
      c.take-log.new.self.slots) (slots_filled c.take-first_list.new.self.slots) 1 2
      c.take-first_list.ensures.others.1 (λ e. omega arith)
      (still_there (slots_filled c.close_with-closed.result.slots) (slots_filled c.take-log.new.self.slots) 0 2
      c.take-log.ensures.others.1 (λ e. omega arith) (c.close_with-closed.ensures.values.1 2 (omega arith) (let n =
      c.close_with-closed.ensures.counts.1 in let m = c.requires.first.slots in omega arith)))),
)

pub take-third_list-requires : goal.take-third_list-requires
take-third_list-requires g c = (
  (let n = c.close_with-closed.ensures.counts.1 in let m = c.requires.first.slots in let l1
      = c.take-log.ensures.others.2 in let l2 = c.take-first_list.ensures.others.2 in
      let l3 = c.take-second_list.ensures.others.2 in omega
      arith),
  (still_there (slots_filled c.take-first_list.new.self.slots) (slots_filled c.take-second_list.new.self.slots) 2 3
      c.take-second_list.ensures.others.1 (λ e. omega arith) (still_there (slots_filled c.take-log.new.self.slots)
      (slots_filled
      c.take-first_list.new.self.slots) 1 3 c.take-first_list.ensures.others.1 (λ e. omega arith) (still_there
      (slots_filled
      c.close_with-closed.result.slots) (slots_filled c.take-log.new.self.slots) 0 3 c.take-log.ensures.others.1 (λ e.
      omega arith) (c.close_with-closed.ensures.values.1 3 (omega arith) (let n = c.close_with-closed.ensures.counts.1
      in let m = c.requires.first.slots in omega arith))))),
)

pub take-last_list-requires : goal.take-last_list-requires
take-last_list-requires g c = (
  (let n = c.close_with-closed.ensures.counts.1 in let m = c.requires.first.slots in let l1
      = c.take-log.ensures.others.2 in let l2 = c.take-first_list.ensures.others.2 in
      let l3 = c.take-second_list.ensures.others.2 in let
      l4 = c.take-third_list.ensures.others.2 in omega arith),
  (still_there (slots_filled c.take-second_list.new.self.slots) (slots_filled
      c.take-third_list.new.self.slots) 3 4 c.take-third_list.ensures.others.1 (λ e. omega arith) (still_there
      (slots_filled
      c.take-first_list.new.self.slots) (slots_filled c.take-second_list.new.self.slots) 2 4
      c.take-second_list.ensures.others.1 (λ e. omega arith)
      (still_there (slots_filled c.take-log.new.self.slots) (slots_filled c.take-first_list.new.self.slots) 1 4
      c.take-first_list.ensures.others.1 (λ e. omega arith) (still_there (slots_filled c.close_with-closed.result.slots)
      (slots_filled c.take-log.new.self.slots) 0 4 c.take-log.ensures.others.1 (λ e. omega arith)
      (c.close_with-closed.ensures.values.1 4 (omega arith) (let n = c.close_with-closed.ensures.counts.1 in let m =
      c.requires.first.slots in omega arith)))))),
)

pub take-data-requires : goal.take-data-requires
take-data-requires g c = (
  (let n = c.close_with-closed.ensures.counts.1 in let m = c.requires.first.slots in let
      l1 = c.take-log.ensures.others.2 in let l2 = c.take-first_list.ensures.others.2 in
      let l3 = c.take-second_list.ensures.others.2 in
      let l4 = c.take-third_list.ensures.others.2 in let l5 = c.take-last_list.ensures.others.2 in omega arith),
  (still_there
      (slots_filled c.take-third_list.new.self.slots) (slots_filled c.take-last_list.new.self.slots) 4 5
      c.take-last_list.ensures.others.1 (λ e.
      omega arith) (still_there (slots_filled c.take-second_list.new.self.slots)
      (slots_filled c.take-third_list.new.self.slots) 3 5
      c.take-third_list.ensures.others.1 (λ e. omega arith) (still_there
      (slots_filled c.take-first_list.new.self.slots) (slots_filled
      c.take-second_list.new.self.slots) 2 5 c.take-second_list.ensures.others.1 (λ e. omega arith) (still_there
      (slots_filled
      c.take-log.new.self.slots) (slots_filled c.take-first_list.new.self.slots) 1 5
      c.take-first_list.ensures.others.1 (λ e. omega arith)
      (still_there (slots_filled c.close_with-closed.result.slots) (slots_filled c.take-log.new.self.slots) 0 5
      c.take-log.ensures.others.1 (λ e. omega arith) (c.close_with-closed.ensures.values.1 5 (omega arith) (let n =
      c.close_with-closed.ensures.counts.1 in let m = c.requires.first.slots in omega arith))))))),
)

pub free-requires : goal.free-requires
free-requires g c = λ k l. all_empty (slots_filled c.close_with-closed.result.slots) (slots_filled
    c.take-log.new.self.slots) (slots_filled c.take-first_list.new.self.slots)
    (slots_filled c.take-second_list.new.self.slots)
    (slots_filled c.take-third_list.new.self.slots) (slots_filled c.take-last_list.new.self.slots) (slots_filled
    c.take-data.new.self.slots) c.take-log.ensures.others.1 c.take-first_list.ensures.others.1
    c.take-second_list.ensures.others.1
    c.take-third_list.ensures.others.1 c.take-last_list.ensures.others.1 c.take-data.ensures.others.1 k (let n =
    c.close_with-closed.ensures.counts.1 in let m = c.requires.first.slots in let l1 =
    c.take-log.ensures.others.2 in let l2 = c.take-first_list.ensures.others.2 in
    let l3 = c.take-second_list.ensures.others.2 in let l4
    = c.take-third_list.ensures.others.2 in let l5 = c.take-last_list.ensures.others.2 in
    let l6 = c.take-data.ensures.others.2 in
    omega arith)

pub desk_in-part-requires : goal.desk_in-part-requires
desk_in-part-requires g c = let end = c.requires.ends (slots_items c.close_with-closed.result.words)
    (slots_items c.close_with-closed.result.slots) c.close_with-closed.ensures.values.2 in log_there g.L.Sectors.seen g.L.Sectors.gives g.D.Sectors.seen g.D.Sectors.gives
    c.args.board.shared.key end.0 end.1 (slots_items c.close_with-closed.result.words)
    (slots_items c.close_with-closed.result.slots) end.2 c.take-log.result c.take-log.ensures.value

pub data_in-requires : goal.data_in-requires
data_in-requires g c = let end = c.requires.ends (slots_items c.close_with-closed.result.words)
    (slots_items c.close_with-closed.result.slots) c.close_with-closed.ensures.values.2 in data_there g.L.Sectors.seen g.L.Sectors.gives g.D.Sectors.seen g.D.Sectors.gives
    c.args.board.shared.key end.0 end.1 (slots_items c.close_with-closed.result.words)
    (slots_items c.close_with-closed.result.slots) end.2 c.take-data.result (ap (λ (l : List (Slot
    _ _)). get_elem? l 5) (sym (c.take-last_list.ensures.others.0 ∙ c.take-third_list.ensures.others.0
    ∙ c.take-second_list.ensures.others.0 ∙
    c.take-first_list.ensures.others.0 ∙ c.take-log.ensures.others.0)) ∙ c.take-data.ensures.value)

pub returns : goal.returns
returns g c = record {
  leaves = record {
    words = slots_items c.close_with-closed.result.words;
    slots = slots_items c.close_with-closed.result.slots;
    final = c.close_with-closed.ensures.values.2;
    leaves = λ heard actors E. parts_left g.L.Sectors.seen g.L.Sectors.gives g.D.Sectors.seen g.D.Sectors.gives
        c.args.board.shared.key heard actors (slots_items c.close_with-closed.result.words)
        (slots_items c.close_with-closed.result.slots) E _ c.take-log.result c.take-data.result c.desk_in-part.result
        c.take-log.ensures.value c.desk_in-part.ensures refl
        (ap (λ (l : List (Slot _ _)). get_elem? l 5) (sym (c.take-last_list.ensures.others.0 ∙
        c.take-third_list.ensures.others.0 ∙ c.take-second_list.ensures.others.0 ∙ c.take-first_list.ensures.others.0
        ∙ c.take-log.ensures.others.0))
        ∙ c.take-data.ensures.value) c.data_in.ensures
        (c.tail_of.ensures ∙ ap tail_of c.word_in.ensures) c.word_in-2.ensures c.word_in-3.ensures c.word_in-4.ensures c.word_in-code.ensures;
    work = λ heard actors E. work_left g.L.Sectors.seen g.L.Sectors.gives g.D.Sectors.seen g.D.Sectors.gives
        c.args.board.shared.key heard actors (slots_items c.close_with-closed.result.words)
        (slots_items c.close_with-closed.result.slots) E c.take-log.result c.desk_in-part.result c.take-log.ensures.value
        c.desk_in-part.ensures;
  };
  lists_are = four_at (slots_items c.close_with-closed.result.slots) c.take-first_list.result
      c.take-second_list.result c.take-third_list.result c.take-last_list.result
      (ap (λ (l : List (Slot _ _)). get_elem? l 1) (sym (c.take-log.ensures.others.0))
      ∙ c.take-first_list.ensures.value)
      (ap (λ (l : List (Slot _ _)). get_elem? l 2)
      (sym (c.take-first_list.ensures.others.0 ∙ c.take-log.ensures.others.0)) ∙ c.take-second_list.ensures.value)
      (ap (λ (l : List (Slot _ _)). get_elem? l 3)
      (sym (c.take-second_list.ensures.others.0 ∙ c.take-first_list.ensures.others.0
      ∙ c.take-log.ensures.others.0)) ∙ c.take-third_list.ensures.value)
      (ap (λ (l : List (Slot _ _)). get_elem? l 4)
      (sym (c.take-third_list.ensures.others.0 ∙ c.take-second_list.ensures.others.0
      ∙ c.take-first_list.ensures.others.0 ∙ c.take-log.ensures.others.0)) ∙ c.take-last_list.ensures.value);
}
