use Rattle.std.proofs.Common.{refl}
use Rattle.model_report.specs.{item_of_record}
use Rattle.model_script.specs.{item_text}
use Rattle.redo_report.proofs.ListedRecords.{items_of-group, ranged}
use Rattle.redo_report.proofs.laws.listed_record_reads_back.Goals as goal

pub returns : goal.returns
returns c = record {
  operation = λ shape logged text fits. record {
    text = item_text (item_of_record logged);
    line_is = refl;
    is_read = c.printed_operation_reads_back.ensures (item_of_record logged) (ranged shape logged text fits);
  };
  line = items_of-group;
}
