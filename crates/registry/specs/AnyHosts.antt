-- What a host of any kind means.
use Rattle.std.specs.Prelude.{vec_items}
use Rattle.host.specs.Empty.{empty_host_lawful}
use Rattle.host.specs.Law.{Lawful, empty_host}
use Rattle.host.specs.Meaning.{Meaning}
use Rattle.rows.specs.Tables.{tabled}
use Rattle.rows.proofs.Lawfulness.{tabled_lawful}
use Rattle.registry.specs.declared.any.AnyHost.{AnyHost}
use Rattle.registry.specs.declared.any.AnyHost.TheVariants.{Tabled, Empty}

abbrev pub any_meaning : AnyHost → Meaning
any_meaning (Tabled h) = tabled (vec_items h.rows)
any_meaning (Empty h) = empty_host

abbrev pub any_lawful : (h : AnyHost) → Lawful (any_meaning h)
any_lawful (Tabled h) = tabled_lawful (vec_items h.rows) h.unbroken
any_lawful (Empty h) = empty_host_lawful
