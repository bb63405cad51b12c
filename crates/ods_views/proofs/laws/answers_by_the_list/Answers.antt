use Rattle.ods_views.proofs.Looked.{looked}
use Rattle.ods_views.proofs.laws.answers_by_the_list.Goals as goal

pub returns : goal.returns
returns c M E V L who q answer version = looked M E V L version who q answer
