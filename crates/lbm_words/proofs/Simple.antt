-- The commands are those whose parse is known.
use Rattle.std.proofs.Common.{◌≡◌, true, refl}
use Rattle.clap.specs.Words.{is_simple_and_free}
use Rattle.clap.proofs.OnLiterals.{clap_on_literals}
use Rattle.lbm_words.specs.declared.commands.CommandKind.{CommandKind}
use Rattle.lbm_words.specs.declared.commands.CommandKind.TheVariants.{Run, Check, Demo, Voxels, Tracer}
use Rattle.lbm_words.specs.Commands.{run_app, check_app, demo_app, voxels_app, tracer_app, app_for}

run_app-is_simple : is_simple_and_free run_app ≡ true
unfolding clap_on_literals run_app
run_app-is_simple = refl

check_app-is_simple : is_simple_and_free check_app ≡ true
unfolding clap_on_literals check_app
check_app-is_simple = refl

demo_app-is_simple : is_simple_and_free demo_app ≡ true
unfolding clap_on_literals demo_app
demo_app-is_simple = refl

voxels_app-is_simple : is_simple_and_free voxels_app ≡ true
unfolding clap_on_literals voxels_app
voxels_app-is_simple = refl

tracer_app-is_simple : is_simple_and_free tracer_app ≡ true
unfolding clap_on_literals tracer_app
tracer_app-is_simple = refl

pub app_for-is_simple : (kind : CommandKind) → is_simple_and_free (app_for kind) ≡ true
app_for-is_simple Run = run_app-is_simple
app_for-is_simple Check = check_app-is_simple
app_for-is_simple Demo = demo_app-is_simple
app_for-is_simple Voxels = voxels_app-is_simple
app_for-is_simple Tracer = tracer_app-is_simple
