-- Frames that are made from a number alone: a ramp in each component, with noise. They are this
-- project's own, and the same on every machine.
use Rattle.std.specs.Prelude.{ℕ, zero, suc, ◌+◌, ◌-◌, ◌*◌, ◌/◌, ◌%◌, ◌^◌, List, map}
use Rattle.std.specs.List.{range_with_len}
use Rattle.cine_nums.specs.declared.profile.Profile.{Profile}
use Rattle.cine_nums.specs.declared.profile.Profile.TheVariants.{TwoK, FourK}
use Rattle.pnm_frames.specs.Picture.{Picture}

-- the flat container of the profile, of aspect ratio 1.85: its size in samples
abbrev pub demo_width : Profile → ℕ
demo_width TwoK = 1998
demo_width FourK = 3996

abbrev pub demo_height : Profile → ℕ
demo_height TwoK = 1080
demo_height FourK = 2160

-- a linear congruential generator of 32 bits
abbrev pub next_state : ℕ → ℕ
next_state s = (1664525 * s + 1013904223) % 2 ^ 32

-- the state after so many samples; the first state is the number of the frame
unfoldable pub state_after : ℕ → ℕ → ℕ
state_after number zero = number
state_after number (suc count) = next_state (state_after number count)

-- the ramp of a component, without noise
abbrev pub ramp : ℕ → ℕ → ℕ → ℕ
ramp component x y = (x * (component + 1) + y * (3 - component)) % 4096

-- a sample from its ramp and the state that the generator has with it: fifteen parts of the ramp,
-- and one of noise of 8 bits, brought to 12
abbrev pub mixed : ℕ → ℕ → ℕ
mixed base state = (15 * base + 16 * (state / 2 ^ 24)) / 16

-- the sample of a component at a place in raster order, from 0; samples are made pixel by pixel,
-- X', Y', Z' of each
unfoldable pub demo_sample : ℕ → ℕ → ℕ → ℕ → ℕ
demo_sample number width component place =
    mixed (ramp component (place % width) (place / width))
    (state_after number (3 * place + component + 1))

-- the first samples of a component in raster order
abbrev pub demo_samples : ℕ → ℕ → ℕ → ℕ → List ℕ
demo_samples number width component count =
    map (demo_sample number width component) (range_with_len 0 count)

-- the frame of a number
abbrev pub demo_picture : ℕ → Profile → Picture
demo_picture number profile =
    let width = demo_width profile in
    let height = demo_height profile in
    record {
      width = width;
      height = height;
      x = demo_samples number width 0 (width * height);
      y = demo_samples number width 1 (width * height);
      z = demo_samples number width 2 (width * height);
    }
