-- Internal: what a digest that is worked out part by part has taken in so far.
use Rattle.std.specs.Prelude.{ℕ, List}
use Rattle.md5.specs.Md5 as md5
use Rattle.sha1.specs.Sha1 as sha1
use Rattle.sha2.specs.Hashers.{Holds256}
use Rattle.jr_model.specs.declared.contents.VerifyKind.{VerifyKind}
use Rattle.jr_model.specs.declared.contents.VerifyKind.TheVariants as verify
use Rattle.jr_header.specs.declared.hashers.Hasher.{Hasher}
use Rattle.jr_header.specs.declared.hashers.Hasher.TheVariants as hasher

-- the hasher is of this kind, and these bytes went into it
abbrev pub TookIn : VerifyKind → Hasher → List ℕ → Type 0
TookIn verify.Md5 (hasher.Md5 h) bytes = md5.Holds h bytes
TookIn verify.Sha1 (hasher.Sha1 h) bytes = sha1.Holds h bytes
TookIn verify.Sha256 (hasher.Sha256 h) bytes = Holds256 h bytes
TookIn verify.Plain hasher.Nothing bytes = Unit {0}
TookIn verify.Pattern hasher.Nothing bytes = Unit {0}
TookIn kind h bytes = ⊥
