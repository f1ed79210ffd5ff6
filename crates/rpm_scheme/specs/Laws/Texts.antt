-- What texts spell, and which: exactly the versions. The normal text is the text as it is written.
use Rattle.std.proofs.Common.{refl}
use Rattle.vx_scheme.specs.Scheme.{TextLaws}
use Rattle.vx_text.proofs.EpochVersionLaws.{version_texts}
use Rattle.rpm_scheme.specs.Version.{IsWithin}
use Rattle.rpm_scheme.specs.Spelling.{Spells, IsVersion, is_part, version_of}
use Rattle.rpm_scheme.specs.Writing.{normal}
use Rattle.rpm_scheme.specs.Order.{order_of, order_total}
use Rattle.rpm_scheme.specs.Laws.Unique.{part_some, release_lacks, version_lacks}

pub rpm_texts : TextLaws order_of IsVersion IsWithin Spells normal
rpm_texts = version_texts is_part is_part version_of version_lacks release_lacks part_some normal (λ text p. refl) order_of IsWithin order_total
