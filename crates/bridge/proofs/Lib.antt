pub mod GateSteps
pub mod RoomLaws
pub mod RefusedLaws
pub mod ExampleLaws
pub mod PhaseLaws
pub mod ComeSteps
pub mod CountLaws
pub mod StartLaws
