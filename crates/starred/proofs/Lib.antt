pub mod StarredCharts
