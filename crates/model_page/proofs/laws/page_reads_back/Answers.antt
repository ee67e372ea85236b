use Rattle.model_page.proofs.ReadBack.{page_check-page_text, is_blank-page_text, user_part-page_text}
use Rattle.model_page.proofs.NotBlank.{is_blank-page_text_whole}
use Rattle.model_page.proofs.laws.page_reads_back.Goals as goal

pub returns-clause-sound : goal.returns-clause-sound
returns-clause-sound c = page_check-page_text

pub returns-clause-not_blank : goal.returns-clause-not_blank
returns-clause-not_blank c = is_blank-page_text

pub returns-clause-user : goal.returns-clause-user
returns-clause-user c = user_part-page_text

pub returns-clause-never_blank : goal.returns-clause-never_blank
returns-clause-never_blank c = is_blank-page_text_whole
