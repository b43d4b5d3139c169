-- The lengths of digests and headers.
use Rattle.std.proofs.Common.{◌≡◌, ℕ, List, length, replicate, refl, arith, length-append}
use Rattle.md5.specs.Md5 as md5
use Rattle.sha1.specs.Sha1 as sha1
use Rattle.sha2.specs.Sha256 as sha256
use Rattle.jr_model.specs.declared.blocks.Piece.{Piece}
use Rattle.jr_model.specs.declared.events.WriteId.{WriteId}
use Rattle.jr_model.specs.declared.contents.VerifyKind.{VerifyKind}
use Rattle.jr_model.specs.declared.contents.VerifyKind.TheVariants as verify
use Rattle.jr_model.specs.Content.{digest_of, digest_length, header_front, header_back, header_over}

length-md5 : (m : List ℕ) → length (md5.md5 m) ≡ 16
unfolding md5.md5 md5.digest_bytes
length-md5 m = refl

length-sha1 : (m : List ℕ) → length (sha1.sha1 m) ≡ 20
unfolding sha1.sha1 sha1.digest_bytes
length-sha1 m = refl

length-sha256 : (m : List ℕ) → length (sha256.sha256 m) ≡ 32
unfolding sha256.sha256 sha256.digest_bytes
length-sha256 m = refl

pub length-digest_of : (kind : VerifyKind) (area : List ℕ) → length (digest_of kind area) ≡ digest_length kind
length-digest_of verify.Md5 area = length-md5 area
length-digest_of verify.Sha1 area = length-sha1 area
length-digest_of verify.Sha256 area = length-sha256 area
length-digest_of verify.Plain area = refl
length-digest_of verify.Pattern area = refl

pub length-header_back : (kind : VerifyKind) (area : List ℕ) → length (header_back kind area) ≡ 32
length-header_back verify.Md5 area = omega (arith, length-append (md5.md5 area) (replicate 16 0), length-md5 area)
length-header_back verify.Sha1 area = omega (arith, length-append (sha1.sha1 area) (replicate 12 0), length-sha1 area)
length-header_back verify.Sha256 area = omega (arith, length-append (sha256.sha256 area) (replicate 0 0), length-sha256 area)
length-header_back verify.Plain area = refl
length-header_back verify.Pattern area = refl

pub length-header_front : (version : ℕ) (kind : VerifyKind) (write : WriteId) (piece : Piece) → length (header_front version kind write piece) ≡ 32
unfolding header_front
length-header_front version kind write piece = refl

pub length-header_over : (version : ℕ) (kind : VerifyKind) (write : WriteId) (piece : Piece) (area : List ℕ) → length (header_over version kind write piece area) ≡ 64
length-header_over version kind write piece area =
    omega (arith, length-append (header_front version kind write piece) (header_back kind area), length-header_front version kind write piece, length-header_back kind area)
