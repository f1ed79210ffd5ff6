-- What texts spell, and which: exactly the versions. The normal text is the text as it is written.
use Rattle.std.proofs.Common.{refl}
use Rattle.vx_scheme.specs.Scheme.{TextLaws}
use Rattle.vx_text.proofs.EpochVersionLaws.{version_texts}
use Rattle.deb_scheme.specs.Version.{IsWithin}
use Rattle.deb_scheme.specs.Spelling.{Spells, IsVersion, is_revision, is_upstream, version_of}
use Rattle.deb_scheme.specs.Writing.{normal}
use Rattle.deb_scheme.specs.Order.{order_of, order_total}
use Rattle.deb_scheme.specs.Laws.Unique.{revision_lacks, upstream_lacks, upstream_some}

pub deb_texts : TextLaws order_of IsVersion IsWithin Spells normal
deb_texts = version_texts is_upstream is_revision version_of upstream_lacks revision_lacks upstream_some normal (λ text p. refl) order_of IsWithin order_total
