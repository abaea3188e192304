-- `layout::config::config_of` meets its contract: by the law of its parts.
use Rattle.layout.proofs.Whole.{whole_config}
use Rattle.layout.proofs.config.config_of.Goals as goal

pub returns : goal.returns
returns c =
    let h = c in
    let a = h in
    let l = a in
    let b = l in
    let w = b in
    let k = w in
    let s = k.args in
    whole_config
    s.n.now
    s.c.now
    k.kind_of-kind.ensures
    w.limits_of-limits.ensures
    w.norm_of-norm.ensures
    w.walls_of-walls.ensures
    b.shape_of-shape.ensures
    b.zones_of-zones.ensures
    b.brake_of-brake.ensures
    l.clamp_of-clamp.ensures
    l.to_u32-armed.ensures
    l.calibration_of-calib.ensures
    a.to_u32-horizon_ticks.ensures
    a.absent_camera_of-absent_camera.ensures
    h.gripper_of-gripper.ensures
