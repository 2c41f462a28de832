-- How large products get.
use Prim.Native.Nat.{ℕ, ◌+◌, ◌*◌, ◌^◌, ◌<◌}
use native.Mathlib.Omega.{arith}
use Rattle.situation.proofs.Digits.{below}

pub product : (a b x y : ℕ) → x < a → y < b → x * y < b * a
product a b x y h l = omega (arith, below a b 0 x y (omega arith) h l)

-- planes, one for each of at most 256 variables, from a place on
module _ (plane v : ℕ) (h : plane < 4294967296) (l : v < 256) where
  pub planes_fit : plane * v < 2 ^ 64
  planes_fit = omega (arith, product 4294967296 256 plane v h l)

  pub planes_long : plane * v < 2 ^ 60
  planes_long = omega (arith, product 4294967296 256 plane v h l)

  pub planes_near : (place : ℕ) → place < 2 ^ 59 → place + plane * v < 2 ^ 60
  planes_near place k = omega (arith, product 4294967296 256 plane v h l)

  pub planes_end : (place : ℕ) → place < 2 ^ 59 → place + plane * v < 2 ^ 64
  planes_end place k = omega (arith, planes_near place k)

-- rows of states by windows, each of at most 256 variables, and their planes
module _ (masks states state w : ℕ) (k : masks < 256) (l : states < 256) (a : state < 256) (b : w < 256) where
  pub rows_fit : state + states * w < 65536
  rows_fit = below 256 256 state states w a l b

  pub masks_fit : masks * (state + states * w) < 16777216
  masks_fit = omega (arith, product 256 65536 masks (state + states * w) k rows_fit)

  pub place_fits : (plane : ℕ) → plane < 4294967296 → plane * (masks * (state + states * w)) < 2 ^ 56
  place_fits plane h = omega (arith, product 4294967296 16777216 plane (masks * (state + states * w)) h masks_fit)

-- the sets for resets, and the air that a packet takes
module _ (gap resets free air : ℕ) (h : gap < 4294967296) (k : resets < 4) (l : free < 4294967296) (b : air < 256) where
  pub share_fits : gap * resets + free * air < 2 ^ 42
  share_fits = omega (arith, product 4294967296 4 gap resets h k, product 4294967296 256 free air l b)
