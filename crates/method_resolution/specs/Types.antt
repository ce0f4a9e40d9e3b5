-- The types that the definitions speak of, under one roof.
pub use Rattle.host.specs.declared.forms.CandidateClass.{CandidateClass}
pub use Rattle.host.specs.declared.forms.ContainerKind.{ContainerKind}
pub use Rattle.host.specs.declared.forms.Form.{Form}
pub use Rattle.host.specs.declared.forms.Item.{Item}
pub use Rattle.host.specs.declared.forms.ItemId.{ItemId}
pub use Rattle.host.specs.declared.forms.Mode.{Mode}
pub use Rattle.host.specs.declared.forms.Mode.TheVariants.{MethodCall, Path}
pub use Rattle.host.specs.declared.forms.Sort.{Sort}
pub use Rattle.host.specs.declared.forms.Sort.TheVariants.{Function, Const, Alias}
pub use Rattle.host.specs.declared.forms.Wrap.{Wrap}
pub use Rattle.host.specs.declared.refusals.Refusal.{Refusal}
pub use Rattle.host.specs.declared.refusals.Refusal.TheVariants.{ListTooShort, TooManySteps, TooManyAutoderefs, TooManyCandidates, TooManyImpls}
pub use Rattle.std.specs.declared.option.Option.{Option}
pub use Rattle.std.specs.declared.option.Option.TheVariants.{Some, None}
pub use Rattle.std.specs.declared.result.Result.{Result}
pub use Rattle.std.specs.declared.result.Result.TheVariants.{Ok, Err}
pub use Rattle.method_resolution.specs.declared.AutorefOrPtrAdjustment.{AutorefOrPtrAdjustment}
pub use Rattle.method_resolution.specs.declared.AutorefOrPtrAdjustment.TheVariants.{Autoref, ToConstPtr}
pub use Rattle.method_resolution.specs.declared.Candidate.{Candidate}
pub use Rattle.method_resolution.specs.declared.CandidateKind.{CandidateKind}
pub use Rattle.method_resolution.specs.declared.CandidateKind.TheVariants.{InherentImplCandidate, ObjectCandidate, TraitCandidate, WhereClauseCandidate}
pub use Rattle.method_resolution.specs.declared.CandidateSource.{CandidateSource}
pub use Rattle.method_resolution.specs.declared.CandidateStep.{CandidateStep}
pub use Rattle.method_resolution.specs.declared.Edition.{Edition}
pub use Rattle.method_resolution.specs.declared.Edition.TheVariants.{Edition2015, Edition2018, Edition2021, Edition2024}
pub use Rattle.method_resolution.specs.declared.ListEntry.{ListEntry}
pub use Rattle.method_resolution.specs.declared.ListEntry.TheVariants.{Source, Shadowed}
pub use Rattle.method_resolution.specs.declared.MethodError.{MethodError}
pub use Rattle.method_resolution.specs.declared.MethodError.TheVariants.{NoMatch, Ambiguity, PrivateMatch}
pub use Rattle.method_resolution.specs.declared.Mutability.{Mutability}
pub use Rattle.method_resolution.specs.declared.Mutability.TheVariants.{Not, Mut}
pub use Rattle.method_resolution.specs.declared.Pick.{Pick}
pub use Rattle.method_resolution.specs.declared.PickKind.{PickKind}
pub use Rattle.method_resolution.specs.declared.PickKind.TheVariants.{InherentImplPick, ObjectPick, TraitPick, WhereClausePick}
pub use Rattle.method_resolution.specs.declared.Place.{Place}
pub use Rattle.method_resolution.specs.declared.Settings.{Settings}
pub use Rattle.method_resolution.specs.declared.Verdict.{Verdict}
