-- The planes of a frame that is being made.
use Rattle.std.specs.Prelude.{ℕ, ◌≡◌, ◌*◌, All}
use Rattle.pnm_frames.specs.Picture.{IsSample}
use Rattle.demo_frames.specs.Demo.{demo_samples, state_after}
use Rattle.demo_frames.specs.declared.frame.Planes.{Planes}

-- the pixels of the first places are there
pub record AreMade (number width count : ℕ) (s : Planes) : Type 0 where
  pub x : s.x.items ≡ demo_samples number width 0 count
  pub y : s.y.items ≡ demo_samples number width 1 count
  pub z : s.z.items ≡ demo_samples number width 2 count
  pub x_range : All IsSample s.x.items
  pub y_range : All IsSample s.y.items
  pub z_range : All IsSample s.z.items
  pub state : s.state ≡ state_after number (3 * count)
