use Rattle.std.proofs.Common.{sym, ◌∙◌}
use Rattle.redo_drive.specs.{listing_at}
use Rattle.redo_rule.proofs.Kept.{same_data, same_log}
use Rattle.redo_rule.proofs.Laid.{data_last, first_list, list_last, log_last, second_list, third_list}
use Rattle.redo_rule.proofs.laying.parts_in.Goals as goal

pub drop_list-requires : goal.drop_list-requires
drop_list-requires g c = (listing_at c.requires.1.lists 0, first_list c.requires.0 c.requires.1 c.requires.2 c.args.slots.items c.last_slot-data.new.slots.items c.last_slot-d.new.slots.items c.last_slot-c.new.slots.items c.last_slot-b.new.slots.items c.last_slot-a.new.slots.items c.last_slot-log.new.slots.items c.last_slot-data.result c.last_slot-d.result c.last_slot-c.result c.last_slot-b.result c.last_slot-a.result c.last_slot-log.result c.requires.3 c.last_slot-data.ensures c.last_slot-d.ensures c.last_slot-c.ensures c.last_slot-b.ensures c.last_slot-a.ensures c.last_slot-log.ensures, tt)

pub drop_list-requires-2 : goal.drop_list-requires-2
drop_list-requires-2 g c = (listing_at c.requires.1.lists 1, second_list c.requires.0 c.requires.1 c.requires.2 c.args.slots.items c.last_slot-data.new.slots.items c.last_slot-d.new.slots.items c.last_slot-c.new.slots.items c.last_slot-b.new.slots.items c.last_slot-a.new.slots.items c.last_slot-log.new.slots.items c.last_slot-data.result c.last_slot-d.result c.last_slot-c.result c.last_slot-b.result c.last_slot-a.result c.last_slot-log.result c.requires.3 c.last_slot-data.ensures c.last_slot-d.ensures c.last_slot-c.ensures c.last_slot-b.ensures c.last_slot-a.ensures c.last_slot-log.ensures, tt)

pub drop_list-requires-3 : goal.drop_list-requires-3
drop_list-requires-3 g c = (listing_at c.requires.1.lists 2, third_list c.requires.0 c.requires.1 c.requires.2 c.args.slots.items c.last_slot-data.new.slots.items c.last_slot-d.new.slots.items c.last_slot-c.new.slots.items c.last_slot-b.new.slots.items c.last_slot-a.new.slots.items c.last_slot-log.new.slots.items c.last_slot-data.result c.last_slot-d.result c.last_slot-c.result c.last_slot-b.result c.last_slot-a.result c.last_slot-log.result c.requires.3 c.last_slot-data.ensures c.last_slot-d.ensures c.last_slot-c.ensures c.last_slot-b.ensures c.last_slot-a.ensures c.last_slot-log.ensures, tt)

pub drop_list-requires-4 : goal.drop_list-requires-4
drop_list-requires-4 g c = (listing_at c.requires.1.lists 3, list_last c.requires.0 c.requires.1 c.requires.2 c.args.slots.items c.last_slot-data.new.slots.items c.last_slot-d.new.slots.items c.last_slot-c.new.slots.items c.last_slot-b.new.slots.items c.last_slot-a.new.slots.items c.last_slot-log.new.slots.items c.last_slot-data.result c.last_slot-d.result c.last_slot-c.result c.last_slot-b.result c.last_slot-a.result c.last_slot-log.result c.requires.3 c.last_slot-data.ensures c.last_slot-d.ensures c.last_slot-c.ensures c.last_slot-b.ensures c.last_slot-a.ensures c.last_slot-log.ensures, tt)

pub desk_in-requires : goal.desk_in-requires
desk_in-requires g c = (c.requires.0, log_last c.requires.0 c.requires.1 c.requires.2 c.args.slots.items c.last_slot-data.new.slots.items c.last_slot-d.new.slots.items c.last_slot-c.new.slots.items c.last_slot-b.new.slots.items c.last_slot-a.new.slots.items c.last_slot-log.new.slots.items c.last_slot-data.result c.last_slot-d.result c.last_slot-c.result c.last_slot-b.result c.last_slot-a.result c.last_slot-log.result c.requires.3 c.last_slot-data.ensures c.last_slot-d.ensures c.last_slot-c.ensures c.last_slot-b.ensures c.last_slot-a.ensures c.last_slot-log.ensures, tt)

pub data_in-requires : goal.data_in-requires
data_in-requires g c = (c.requires.2, data_last c.requires.0 c.requires.1 c.requires.2 c.args.slots.items c.last_slot-data.new.slots.items c.last_slot-d.new.slots.items c.last_slot-c.new.slots.items c.last_slot-b.new.slots.items c.last_slot-a.new.slots.items c.last_slot-log.new.slots.items c.last_slot-data.result c.last_slot-d.result c.last_slot-c.result c.last_slot-b.result c.last_slot-a.result c.last_slot-log.result c.requires.3 c.last_slot-data.ensures c.last_slot-d.ensures c.last_slot-c.ensures c.last_slot-b.ensures c.last_slot-a.ensures c.last_slot-log.ensures, tt)

pub returns : goal.returns
returns g c = λ desk lists stored is. (
  same_log c.desk_in.result desk (sym c.desk_in.ensures ∙ log_last desk lists stored c.args.slots.items c.last_slot-data.new.slots.items
      c.last_slot-d.new.slots.items c.last_slot-c.new.slots.items c.last_slot-b.new.slots.items
      c.last_slot-a.new.slots.items c.last_slot-log.new.slots.items c.last_slot-data.result c.last_slot-d.result
      c.last_slot-c.result c.last_slot-b.result c.last_slot-a.result c.last_slot-log.result is c.last_slot-data.ensures
      c.last_slot-d.ensures c.last_slot-c.ensures c.last_slot-b.ensures c.last_slot-a.ensures c.last_slot-log.ensures),
  same_data c.data_in.result stored (sym c.data_in.ensures ∙ data_last desk lists stored c.args.slots.items
      c.last_slot-data.new.slots.items c.last_slot-d.new.slots.items c.last_slot-c.new.slots.items
      c.last_slot-b.new.slots.items c.last_slot-a.new.slots.items c.last_slot-log.new.slots.items
      c.last_slot-data.result c.last_slot-d.result c.last_slot-c.result c.last_slot-b.result c.last_slot-a.result
      c.last_slot-log.result is c.last_slot-data.ensures c.last_slot-d.ensures c.last_slot-c.ensures
      c.last_slot-b.ensures c.last_slot-a.ensures c.last_slot-log.ensures),
)
