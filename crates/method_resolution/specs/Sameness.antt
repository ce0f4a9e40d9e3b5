-- When two candidates, and two entries of a caller's list, are the same.
use Rattle.std.specs.Prelude.{Bool, false, ◌==◌}
use Rattle.host.specs.Identity.{same_item}
use Rattle.method_resolution.specs.Types.{Candidate, CandidateSource, ListEntry, Source, Shadowed}
use Rattle.method_resolution.specs.declared.CandidateSource.TheVariants as source

abbrev pub same_candidate : Candidate → Candidate → Bool
same_candidate c d = same_item c.item d.item

abbrev pub same_source : CandidateSource → CandidateSource → Bool
same_source (source.Impl i) (source.Impl j) = i == j
same_source (source.Impl i) (source.Trait t) = false
same_source (source.Trait t) (source.Impl i) = false
same_source (source.Trait t) (source.Trait u) = t == u

abbrev pub same_entry : ListEntry → ListEntry → Bool
same_entry (Source s) (Source t) = same_source s t
same_entry (Source s) (Shadowed i) = false
same_entry (Shadowed i) (Source s) = false
same_entry (Shadowed i) (Shadowed j) = same_item i j
