-- T is as RFC 1321 has it: the integer part of 2^32 times |sin i|, for i from 1 to 64, by the series up to term 112 and up to
-- term 113 (specs/Sines says why that is the sine's).
use Rattle.std.proofs.Common.{◌≡◌, true, refl}
use Rattle.md5_digest.specs.Md5.{sines}
use Rattle.md5_digest.specs.Sines.{scaled_sines}

pub sine_table : scaled_sines 112 1 sines ≡ true
unfolding sines
sine_table = refl
