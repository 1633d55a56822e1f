use Rattle.std.proofs.Common.{◌∙◌, ap}
use Rattle.std.specs.Map.{lookup}
use Rattle.std.specs.Str.{bytes_eq}
use Rattle.cs_records.proofs.Tables.{put_name}
use Rattle.cs_records.proofs.names.NameTable.put.Goals as goal

pub returns-clause-ok : goal.returns-clause-ok
returns-clause-ok c = λ other.
    ap (λ es. lookup (λ k. bytes_eq other k.items) es) c.in_ok-insert.ensures.entries ∙ put_name c.args.self.now.last.entries c.args.name c.args.number other
