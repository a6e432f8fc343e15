pub mod Vtk
