-- The picture that a frame holds.
use Rattle.pnm_frames.specs.declared.frame.Frame.{Frame}
use Rattle.pnm_frames.specs.Picture.{Picture}

abbrev pub picture_of : Frame → Picture
picture_of frame = record {
  width = frame.width;
  height = frame.height;
  x = frame.x.items;
  y = frame.y.items;
  z = frame.z.items;
}
