mod StepLaws
mod PlanLaws
