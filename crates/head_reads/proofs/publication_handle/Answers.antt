-- `head_reads::publication_handle` meets its contract.
use Rattle.std.proofs.Common.{rules}
use Rattle.head_reads.proofs.Heads.{publication_by}
use Rattle.head_reads.proofs.publication_handle.Goals as goal

pub returns : goal.returns
returns c = publication_by c.args.last c.nil.result c.map_or.result _ c.nil.ensures (λ g h. search (rules, h)) c.map_or.ensures
