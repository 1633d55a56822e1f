-- Why an input isn't run.
use Rattle.std.specs.Prelude.{ℕ, List, ◌++◌, codes, decimal}
use Rattle.cs_laws.specs.Texts.{kind_text}
use Rattle.cs_status.specs.declared.refusal.Refusal.{Refusal}
use Rattle.cs_status.specs.declared.refusal.Refusal.TheVariants as refusals

abbrev pub refusal_status : Refusal → ℕ
refusal_status (refusals.Faulty f) = 2
refusal_status refusals.TooLong = 3
refusal_status refusals.TooManyEvents = 3
refusal_status refusals.TooManyFiles = 3
refusal_status refusals.TooManyDirs = 3

abbrev pub refusal_text : Refusal → List ℕ
refusal_text (refusals.Faulty f) = codes "ceph-fault script " ++ (decimal f.line ++ (codes " " ++ kind_text f.kind))
refusal_text refusals.TooLong = codes "ceph-fault limit bytes"
refusal_text refusals.TooManyEvents = codes "ceph-fault limit events"
refusal_text refusals.TooManyFiles = codes "ceph-fault limit files"
refusal_text refusals.TooManyDirs = codes "ceph-fault limit dirs"

abbrev pub refusal_line : Refusal → List ℕ
refusal_line r = refusal_text r ++ codes "\n"
