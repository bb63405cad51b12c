use Rattle.fs_host.proofs.ListedTrees.{folder_reason}
use Rattle.fs_host.proofs.host_tree.kind_at.Goals as goal

pub returns-in-Folder : goal.returns-in-Folder
returns-in-Folder g c = folder_reason c.leads_back.result c.kind_of_folder.result c.kind_of_folder.ensures c.leads_back.ensures.err
