-- RFC 1321, the MD5 message digest, step by step in its order: sections 2 and 3.
use Rattle.std.specs.Prelude.{ℕ, zero, suc, ◌+◌, ◌-◌, ◌*◌, ◌/◌, ◌%◌, ◌^◌, List, [], ◌∷◌, ◌++◌, length, replicate, bit_and, bit_or, bit_xor, slice_index}
use Rattle.md5_digest.specs.declared.Registers.{Registers}
use Rattle.md5_digest.specs.declared.Round.{Round}
use Rattle.md5_digest.specs.declared.Round.TheVariants.{First, Second, Third, Fourth}

-- ---- 2. words of 32 bits

-- the word of the four bytes from index at, the low-order one first
unfoldable pub word : List ℕ → ℕ → ℕ
word bytes at = slice_index bytes at + slice_index bytes (at + 1) * 2 ^ 8 + slice_index bytes (at + 2) * 2 ^ 16 + slice_index bytes (at + 3) * 2 ^ 24

-- the k low-order bytes of v, the low-order one first
unfoldable pub low_first : ℕ → ℕ → List ℕ
low_first zero v = []
low_first (suc k) v = v % 256 ∷ low_first k (v / 256)

-- X + Y, modulo 2^32
abbrev pub sum : ℕ → ℕ → ℕ
sum x y = (x + y) % 2 ^ 32

-- X <<< s: shifted left by s bits, which come in again on the right
unfoldable pub rotated : ℕ → ℕ → ℕ
rotated x s = bit_or (x * 2 ^ s % 2 ^ 32) (x / 2 ^ (32 - s))

-- not(X)
abbrev pub complement : ℕ → ℕ
complement x = 2 ^ 32 - 1 - x

-- ---- 3.1 and 3.2: padding, then the length

-- a 1 bit, then 0 bits until the length is 448 modulo 512 bits: the byte 0x80, then zeros until it is 56 modulo 64 bytes
abbrev pub zeros : ℕ → ℕ
zeros n = (56 + 64 - (n + 1) % 64) % 64

-- of a message of n bytes
abbrev pub padding : ℕ → List ℕ
padding n = 0x80 ∷ replicate (zeros n) 0

-- the length before the padding, in bits, modulo 2^64
abbrev pub bit_length : ℕ → ℕ
bit_length n = n * 8 % 2 ^ 64

-- the message, its padding, and the length as two words, the low-order one first: 8 bytes
unfoldable pub padded : List ℕ → List ℕ
padded message = message ++ (padding (length message) ++ low_first 8 (bit_length (length message)))

-- ---- 3.3: the buffer at the start

unfoldable pub initial : Registers
initial = record { a = 0x6745_2301; b = 0xefcd_ab89; c = 0x98ba_dcfe; d = 0x1032_5476 }

-- ---- 3.4: blocks of 16 words, each in four rounds of 16 operations

-- F, G, H and I
unfoldable pub mixed : Round → ℕ → ℕ → ℕ → ℕ
mixed First x y z = bit_or (bit_and x y) (bit_and (complement x) z)
mixed Second x y z = bit_or (bit_and x z) (bit_and y (complement z))
mixed Third x y z = bit_xor (bit_xor x y) z
mixed Fourth x y z = bit_xor y (bit_or x (complement z))

-- T: the integer part of 2^32 times |sin i|, for i from 1 to 64
unfoldable pub sines : List ℕ
sines =
    0xd76a_a478 ∷ 0xe8c7_b756 ∷ 0x2420_70db ∷ 0xc1bd_ceee
    ∷ 0xf57c_0faf ∷ 0x4787_c62a ∷ 0xa830_4613 ∷ 0xfd46_9501
    ∷ 0x6980_98d8 ∷ 0x8b44_f7af ∷ 0xffff_5bb1 ∷ 0x895c_d7be
    ∷ 0x6b90_1122 ∷ 0xfd98_7193 ∷ 0xa679_438e ∷ 0x49b4_0821
    ∷ 0xf61e_2562 ∷ 0xc040_b340 ∷ 0x265e_5a51 ∷ 0xe9b6_c7aa
    ∷ 0xd62f_105d ∷ 0x0244_1453 ∷ 0xd8a1_e681 ∷ 0xe7d3_fbc8
    ∷ 0x21e1_cde6 ∷ 0xc337_07d6 ∷ 0xf4d5_0d87 ∷ 0x455a_14ed
    ∷ 0xa9e3_e905 ∷ 0xfcef_a3f8 ∷ 0x676f_02d9 ∷ 0x8d2a_4c8a
    ∷ 0xfffa_3942 ∷ 0x8771_f681 ∷ 0x6d9d_6122 ∷ 0xfde5_380c
    ∷ 0xa4be_ea44 ∷ 0x4bde_cfa9 ∷ 0xf6bb_4b60 ∷ 0xbebf_bc70
    ∷ 0x289b_7ec6 ∷ 0xeaa1_27fa ∷ 0xd4ef_3085 ∷ 0x0488_1d05
    ∷ 0xd9d4_d039 ∷ 0xe6db_99e5 ∷ 0x1fa2_7cf8 ∷ 0xc4ac_5665
    ∷ 0xf429_2244 ∷ 0x432a_ff97 ∷ 0xab94_23a7 ∷ 0xfc93_a039
    ∷ 0x655b_59c3 ∷ 0x8f0c_cc92 ∷ 0xffef_f47d ∷ 0x8584_5dd1
    ∷ 0x6fa8_7e4f ∷ 0xfe2c_e6e0 ∷ 0xa301_4314 ∷ 0x4e08_11a1
    ∷ 0xf753_7e82 ∷ 0xbd3a_f235 ∷ 0x2ad7_d2bb ∷ 0xeb86_d391 ∷ []

-- k: the word that each operation takes, round by round
unfoldable pub order : List ℕ
order =
    0 ∷ 1 ∷ 2 ∷ 3 ∷ 4 ∷ 5 ∷ 6 ∷ 7 ∷ 8 ∷ 9 ∷ 10 ∷ 11 ∷ 12 ∷ 13 ∷ 14 ∷ 15
    ∷ 1 ∷ 6 ∷ 11 ∷ 0 ∷ 5 ∷ 10 ∷ 15 ∷ 4 ∷ 9 ∷ 14 ∷ 3 ∷ 8 ∷ 13 ∷ 2 ∷ 7 ∷ 12
    ∷ 5 ∷ 8 ∷ 11 ∷ 14 ∷ 1 ∷ 4 ∷ 7 ∷ 10 ∷ 13 ∷ 0 ∷ 3 ∷ 6 ∷ 9 ∷ 12 ∷ 15 ∷ 2
    ∷ 0 ∷ 7 ∷ 14 ∷ 5 ∷ 12 ∷ 3 ∷ 10 ∷ 1 ∷ 8 ∷ 15 ∷ 6 ∷ 13 ∷ 4 ∷ 11 ∷ 2 ∷ 9 ∷ []

-- s: four shifts for each round, which come in turn
unfoldable pub shifts : List ℕ
shifts =
    7 ∷ 12 ∷ 17 ∷ 22
    ∷ 5 ∷ 9 ∷ 14 ∷ 20
    ∷ 4 ∷ 11 ∷ 16 ∷ 23
    ∷ 6 ∷ 10 ∷ 15 ∷ 21 ∷ []

-- how many operations come before the round
unfoldable pub before : Round → ℕ
before First = 0
before Second = 16
before Third = 32
before Fourth = 48

-- X: the first n words of the block from index at
unfoldable pub words : ℕ → List ℕ → ℕ → List ℕ
words zero bytes at = []
words (suc n) bytes at = words n bytes at ++ (word bytes (at + n * 4) ∷ [])

-- [abcd k s i]: a = b + ((a + f(b,c,d) + X[k] + T[i]) <<< s); the next operation has the letters moved on by one, [dabc ..]
unfoldable pub operation : Round → List ℕ → Registers → ℕ → ℕ → ℕ → Registers
operation round x r k s t =
    record {
      a = r.d;
      b = sum r.b (rotated (sum (sum (sum r.a (mixed round r.b r.c r.d)) (slice_index x k)) t) s);
      c = r.b;
      d = r.c;
    }

-- operation j of a round, counted from 0
unfoldable pub step : Round → List ℕ → ℕ → Registers → Registers
step round x j r =
    operation round x r (slice_index order (before round + j)) (slice_index shifts (before round / 4 + j % 4)) (slice_index sines (before round + j))

-- the first j operations of a round
unfoldable pub steps : Round → List ℕ → ℕ → Registers → Registers
steps round x zero r = r
steps round x (suc j) r = step round x j (steps round x j r)

-- each register added to what it was before the block
unfoldable pub added : Registers → Registers → Registers
added r q = record { a = sum q.a r.a; b = sum q.b r.b; c = sum q.c r.c; d = sum q.d r.d }

unfoldable pub block : List ℕ → Registers → Registers
block x r = added r (steps Fourth x 16 (steps Third x 16 (steps Second x 16 (steps First x 16 r))))

-- the first n blocks, one after the other
unfoldable pub blocks : List ℕ → ℕ → Registers → Registers
blocks bytes zero r = r
blocks bytes (suc n) r = block (words 16 bytes (n * 64)) (blocks bytes n r)

-- ---- 3.5: A, B, C and D, the low-order byte first

unfoldable pub digest : Registers → List ℕ
digest r = low_first 4 r.a ++ (low_first 4 r.b ++ (low_first 4 r.c ++ low_first 4 r.d))

-- the 16 bytes of the digest of a message
unfoldable pub md5_of : List ℕ → List ℕ
md5_of message = digest (blocks (padded message) (length (padded message) / 64) initial)
