-- When two items are one.
use Rattle.std.specs.Prelude.{Bool, true, false, ◌&&◌, ◌==◌}
use Rattle.host.specs.declared.forms.ContainerKind.{ContainerKind}
use Rattle.host.specs.declared.forms.ContainerKind.TheVariants.{Impl, Trait}
use Rattle.host.specs.declared.forms.ItemId.{ItemId}

abbrev pub same_kind : ContainerKind → ContainerKind → Bool
same_kind Impl Impl = true
same_kind Impl Trait = false
same_kind Trait Impl = false
same_kind Trait Trait = true

-- the same container, and the same place there
abbrev pub same_item : ItemId → ItemId → Bool
same_item x y = same_kind x.kind y.kind && (x.container == y.container && x.place == y.place)
