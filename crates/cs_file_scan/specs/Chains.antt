-- Numbers that are found by chains of their indices.
use Rattle.std.specs.Prelude.{◌≡◌, ◌≢◌, ℕ, ◌+◌, ◌<◌, ◌≤◌, ◌%◌, List, length, get_or}

-- the numbers, index by index, and how many buckets they are in
pub record ChainsData : Type 0 where
  pub buckets : ℕ
  pub numbers : List ℕ

-- the bucket of a number
abbrev pub bucket_of : ChainsData → ℕ → ℕ
bucket_of chains number = number % chains.buckets

abbrev pub bucket_at : ChainsData → ℕ → ℕ
bucket_at chains index = bucket_of chains (get_or chains.numbers index 0)

-- of the indices below a bound the last one of a bucket is just below the end, and the end is 0 if there is none
pub record IsEnd (chains : ChainsData) (bucket bound end : ℕ) : Type 0 where
  pub within : end ≤ bound
  pub last : (index : ℕ) → end ≡ index + 1 → bucket_at chains index ≡ bucket
  pub none : (index : ℕ) → end ≤ index → index < bound → bucket_at chains index ≢ bucket

-- each bucket has its end, and each index has the end of its bucket below it
pub record AreChained (ends numbers befores : List ℕ) : Type 0 where
  pub some : 0 < length ends
  pub each_end : (bucket : ℕ) → bucket < length ends
      → IsEnd (record { buckets = length ends; numbers = numbers }) bucket (length numbers) (get_or ends bucket 0)
  pub each_before : (index : ℕ) → index < length numbers
      → IsEnd (record { buckets = length ends; numbers = numbers }) (get_or numbers index 0 % length ends) index
      (get_or befores index 0)
