use Rattle.std.proofs.Common.{◌≡◌, take}
use Rattle.vx_scheme.proofs.ident.copy_idents.Given as goal

-- the idents so far are copied
abbrev pub invariant-loop-ident : goal.invariant-loop-ident
invariant-loop-ident l = l.copied ≡ take l.ident-index l.ident-items
